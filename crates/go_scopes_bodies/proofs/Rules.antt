-- A rule that goes along the events of files fails nowhere where it fails neither outside of functions nor in one of these.
use Rattle.std.proofs.Common.{◌≡◌, ◌∙◌, ℕ, suc, ◌+◌, false, List, [], ◌∷◌, ◌++◌, map, Some, refl, sym, ap, subst, arith}
use Rattle.std.specs.Prelude.{slice_get}
use Rattle.go_tokens.specs.Tokens.{TokenList, kinds}
use Rattle.go_grammar.specs.Trees.{Tree, first, last, parts}
use Rattle.go_tree.specs.declared.event.Event.{Event}
use Rattle.go_tree.specs.declared.event.Event.TheVariants as event
use Rattle.go_tree.specs.Branches.{misplaced, branches}
use Rattle.go_tree.specs.Contexts.{file_context}
use Rattle.go_tree.specs.Duplicates.{second_defaults}
use Rattle.go_tree.specs.Events.{events}
use Rattle.go_tree.specs.Failures.{of_files}
use Rattle.go_tree.specs.Lists.{functions}
use Rattle.go_tree.specs.Units.{Place, bytes_of, bytes_at, word, is_blank}
use Rattle.go_scopes_events.specs.Moved.{moved_event}
use Rattle.go_heads.specs.Functions.{Function, AreRead, alone, functions_in, function_alone}
use Rattle.go_heads.specs.Heads.{File, IsRead, in_bodies}
use Rattle.go_heads.specs.Objects.{units_of}
use Rattle.go_heads.specs.Told.{file_events}
use Rattle.go_heads.specs.Bodies.{function_events}
use Rattle.go_heads.proofs.Public as bodies
use Rattle.go_heads.proofs.Public.{Stands, AllStand, file_stands, Every}
use Rattle.go_heads.specs.Locals.{HaveNames, AreNamed}
use Rattle.go_scopes_bodies.specs.Outside.{outside_events, outside_units}
use Rattle.go_scopes_bodies.specs.Faults.{no_tokens, own_misplaced, own_second_defaults}
use Rattle.go_scopes_bodies.proofs.Each.{Iff, EachOwn}
use Rattle.go_scopes_bodies.proofs.Lists.{none_left, none_right, none_both}
use Rattle.go_scopes_bodies.proofs.Pieces.{Piece, around, function, told_by, told_around, trees_of, file_pieces}

-- ---- lists

every_left : {A : Type 0} (Q : A → Type 0) (xs ys : List A) → Every Q (xs ++ ys) → Every Q xs
every_left Q [] ys h = tt
every_left Q (x ∷ xs) ys h = (h.0, every_left Q xs ys h.1)

every_right : {A : Type 0} (Q : A → Type 0) (xs ys : List A) → Every Q (xs ++ ys) → Every Q ys
every_right Q [] ys h = h
every_right Q (x ∷ xs) ys h = every_right Q xs ys h.1

-- ---- a rule on the events of a file

abbrev pub EventRule : Type 0
EventRule = ℕ → TokenList → List Event → List Place

-- What the rule says of events is what it says of each.
pub record GoesAlong (rule : EventRule) : Type 0 where
  pub none : (n : ℕ) (l : TokenList) → rule n l [] ≡ []
  pub both : (n : ℕ) (l : TokenList) (es fs : List Event) → rule n l (es ++ fs) ≡ rule n l es ++ rule n l fs

module _ (rule : EventRule) (along : GoesAlong rule) (n : ℕ) (l : TokenList) where
  abbrev FailsNowhere : List Event → Type 0
  FailsNowhere es = rule n l es ≡ []

  split : (es fs : List Event) → FailsNowhere (es ++ fs) → FailsNowhere es × FailsNowhere fs
  split es fs e = let g : rule n l es ++ rule n l fs ≡ [] = sym (along.both n l es fs) ∙ e in (none_left (rule n l es) (rule n l fs) g, none_right (rule n l es) (rule n l fs) g)

  join : (es fs : List Event) → FailsNowhere es → FailsNowhere fs → FailsNowhere (es ++ fs)
  join es fs e f = along.both n l es fs ∙ none_both (rule n l es) (rule n l fs) e f

  module _ (tells : Tree → List Event) where
    pub apart : (ps : List Piece) → FailsNowhere (told_by tells ps) → FailsNowhere (told_around ps) × Every (λ t. FailsNowhere (tells t)) (trees_of ps)
    apart [] e = (e, tt)
    apart (around es ∷ ps) e = let x = split es (told_by tells ps) e in let y = apart ps x.1 in (join es (told_around ps) x.0 y.0, y.1)
    apart (function t ∷ ps) e = let x = split (tells t) (told_by tells ps) e in let y = apart ps x.1 in (y.0, (x.0, y.1))

    pub again : (ps : List Piece) → FailsNowhere (told_around ps) → Every (λ t. FailsNowhere (tells t)) (trees_of ps) → FailsNowhere (told_by tells ps)
    again [] e h = e
    again (around es ∷ ps) e h = let x = split es (told_around ps) e in join es (told_by tells ps) x.0 (again ps x.1 h)
    again (function t ∷ ps) e h = join (tells t) (told_by tells ps) h.0 (again ps e h.1)

-- ---- the files of a package

-- what a function tells in its file
abbrev pub told_in : File → Tree → List Event
told_in f t = events (file_context (last f.tree)) t

-- A rule fails nowhere where it fails neither outside of functions nor in one of these by itself, if that holds in each file.
module _ (all : List File) (rule : EventRule) (Own : ℕ → Function → Type 0) where
  abbrev pub IsFileRule : Type 0
  IsFileRule = (n : ℕ) (f : File) → IsRead f → slice_get all n ≡ Some f → HaveNames f.tokens (functions (parts f.tree))
      → Iff (rule n f.tokens (file_events f) ≡ []) ((rule n f.tokens (outside_events f) ≡ []) × Every (Own n) (functions_in f))

  pub rule_by_files : IsFileRule → (n : ℕ) (fs : List File) → ((k : ℕ) → slice_get all (n + k) ≡ slice_get fs k) → AreRead fs → AreNamed fs
      → Iff (of_files rule n (units_of fs) ≡ []) ((of_files rule n (outside_units fs) ≡ []) × EachOwn Own n fs)
  rule_by_files one n [] there h g = record { to = λ e. (refl, tt); from = λ e. refl }
  rule_by_files one n (f ∷ fs) there h g =
      let z : n ≡ n + 0 = omega arith in
      let next : (i : ℕ) → suc n + i ≡ n + suc i = λ i. omega arith in
      let here = one n f h.0 (ap (slice_get all) z ∙ there 0) g.0 in
      let rest = rule_by_files one (suc n) fs (λ i. ap (slice_get all) (next i) ∙ there (suc i)) h.1 g.1 in
      let whole : List Place = rule n f.tokens (file_events f) in
      let others : List Place = of_files rule (suc n) (units_of fs) in
      let out : List Place = rule n f.tokens (outside_events f) in
      let outs : List Place = of_files rule (suc n) (outside_units fs) in
      record {
        to = λ e. let x = here.to (none_left whole others e) in let y = rest.to (none_right whole others e) in (none_both out outs x.0 y.0, (x.1, y.1));
        from = λ e. none_both whole others (here.from (none_left out outs e.0, e.1.0)) (rest.from (none_right out outs e.0, e.1.1));
      }

module _ (all : List File) (rule : EventRule) (along : GoesAlong rule) (Own : ℕ → Function → Type 0) where
  -- In a function the rule says by itself whether it fails.
  abbrev pub IsOwnRule : Type 0
  IsOwnRule = (n : ℕ) (f : File) → IsRead f → slice_get all n ≡ Some f → (t : Tree) → Stands (kinds f.tokens.tokens) (in_bodies (parts f.tree)) (last f.tree) (file_events f) t
      → is_blank (word f.tokens (suc (first t))) ≡ false → Iff (rule n f.tokens (told_in f t) ≡ []) (Own n (record { file = f; tree = t }))

  module _ (by_itself : IsOwnRule) where
    to_own : (n : ℕ) (f : File) → IsRead f → slice_get all n ≡ Some f → (ts : List Tree) → AllStand (kinds f.tokens.tokens) (in_bodies (parts f.tree)) (last f.tree) (file_events f) ts
        → HaveNames f.tokens ts → Every (λ t. rule n f.tokens (told_in f t) ≡ []) ts → Every (Own n) (map (λ t. let x : Function = record { file = f; tree = t } in x) ts)
    to_own n f r s [] h g e = tt
    to_own n f r s (t ∷ ts) h g e = ((by_itself n f r s t h.0 g.0).to e.0, to_own n f r s ts h.1 g.1 e.1)

    from_own : (n : ℕ) (f : File) → IsRead f → slice_get all n ≡ Some f → (ts : List Tree) → AllStand (kinds f.tokens.tokens) (in_bodies (parts f.tree)) (last f.tree) (file_events f) ts
        → HaveNames f.tokens ts → Every (Own n) (map (λ t. let x : Function = record { file = f; tree = t } in x) ts) → Every (λ t. rule n f.tokens (told_in f t) ≡ []) ts
    from_own n f r s [] h g e = tt
    from_own n f r s (t ∷ ts) h g e = ((by_itself n f r s t h.0 g.0).from e.0, from_own n f r s ts h.1 g.1 e.1)

    one_file : (n : ℕ) (f : File) → IsRead f → slice_get all n ≡ Some f → HaveNames f.tokens (functions (parts f.tree)) → Iff (rule n f.tokens (file_events f) ≡ []) ((rule n f.tokens (outside_events f) ≡ []) × Every (Own n) (functions_in f))
    one_file n f r s g =
        let p = file_pieces (kinds f.tokens.tokens) f.tree r.tree in
        let stand = file_stands (kinds f.tokens.tokens) f.tree r.tree in
        record {
          to =
              λ e.
              let x = apart rule along n f.tokens (told_in f) p.pieces (ap (rule n f.tokens) (sym p.whole) ∙ e) in
              (ap (rule n f.tokens) p.outside ∙ x.0, to_own n f r s (functions (parts f.tree)) stand g (subst (Every (λ t. rule n f.tokens (told_in f t) ≡ [])) (sym p.trees) x.1));
          from =
              λ e.
              ap (rule n f.tokens) p.whole
              ∙ again rule along n f.tokens (told_in f) p.pieces (ap (rule n f.tokens) (sym p.outside) ∙ e.0)
              (subst (Every (λ t. rule n f.tokens (told_in f t) ≡ [])) p.trees (from_own n f r s (functions (parts f.tree)) stand g e.1));
        }

    -- A rule that goes along the events fails nowhere where it fails neither outside of functions nor in one of these by itself.
    pub rule_by_functions : (n : ℕ) (fs : List File) → ((k : ℕ) → slice_get all (n + k) ≡ slice_get fs k) → AreRead fs → AreNamed fs
        → Iff (of_files rule n (units_of fs) ≡ []) ((of_files rule n (outside_units fs) ≡ []) × EachOwn Own n fs)
    rule_by_functions = rule_by_files all rule Own one_file

-- ---- break, continue and fallthrough

misplaced_both : (n : ℕ) (l : TokenList) (es fs : List Event) → misplaced n l (es ++ fs) ≡ misplaced n l es ++ misplaced n l fs
misplaced_both n l [] fs = refl
misplaced_both n l (event.Misplaced i j ∷ es) fs = ap (λ ps. bytes_of n l i j ∷ ps) (misplaced_both n l es fs)
misplaced_both n l (e ∷ es) fs = misplaced_both n l es fs

misplaced_along : GoesAlong misplaced
misplaced_along = record { none = λ n l. refl; both = misplaced_both }

module _ (n m : ℕ) (l k : TokenList) (a : ℕ) where
  misplaced_to : (es : List Event) → misplaced n l (map (moved_event a) es) ≡ [] → misplaced m k es ≡ []
  misplaced_to [] e = refl
  misplaced_to (event.Misplaced i j ∷ es) e = cc
  misplaced_to (event.Import i ∷ es) e = misplaced_to es e
  misplaced_to (event.Declaration d ∷ es) e = misplaced_to es e
  misplaced_to (event.Use u ∷ es) e = misplaced_to es e
  misplaced_to (event.Member o g i ∷ es) e = misplaced_to es e
  misplaced_to (event.Bodiless i j ∷ es) e = misplaced_to es e
  misplaced_to (event.Statement i j ∷ es) e = misplaced_to es e
  misplaced_to (event.SecondDefault i ∷ es) e = misplaced_to es e

  misplaced_from : (es : List Event) → misplaced m k es ≡ [] → misplaced n l (map (moved_event a) es) ≡ []
  misplaced_from [] e = refl
  misplaced_from (event.Misplaced i j ∷ es) e = cc
  misplaced_from (event.Import i ∷ es) e = misplaced_from es e
  misplaced_from (event.Declaration d ∷ es) e = misplaced_from es e
  misplaced_from (event.Use u ∷ es) e = misplaced_from es e
  misplaced_from (event.Member o g i ∷ es) e = misplaced_from es e
  misplaced_from (event.Bodiless i j ∷ es) e = misplaced_from es e
  misplaced_from (event.Statement i j ∷ es) e = misplaced_from es e
  misplaced_from (event.SecondDefault i ∷ es) e = misplaced_from es e

-- No statement of a function is misplaced.
abbrev pub HasBranches : ℕ → Function → Type 0
HasBranches n f = own_misplaced (function_alone f) ≡ []

pub branches_by_functions : (fs : List File) → AreRead fs → AreNamed fs → Iff (branches (units_of fs) ≡ []) ((branches (outside_units fs) ≡ []) × EachOwn HasBranches 0 fs)
branches_by_functions fs h g =
    rule_by_functions fs misplaced misplaced_along HasBranches own 0 fs (λ k. let z : 0 + k ≡ k = omega arith in ap (slice_get fs) z) h g
  where
    own : IsOwnRule fs misplaced misplaced_along HasBranches
    own n f r s t stands named =
        let es : List Event = function_events (alone f.tokens t) in
        let e : told_in f t ≡ map (moved_event (first t)) es = bodies.tell fs n f r s t stands in
        record {
          to = λ x. misplaced_to n 0 f.tokens no_tokens (first t) es (ap (misplaced n f.tokens) (sym e) ∙ x);
          from = λ x. ap (misplaced n f.tokens) e ∙ misplaced_from n 0 f.tokens no_tokens (first t) es x;
        }

-- ---- a second default

second_defaults_both : (n : ℕ) (l : TokenList) (es fs : List Event) → second_defaults n l (es ++ fs) ≡ second_defaults n l es ++ second_defaults n l fs
second_defaults_both n l [] fs = refl
second_defaults_both n l (event.SecondDefault i ∷ es) fs = ap (λ ps. bytes_at n l i ∷ ps) (second_defaults_both n l es fs)
second_defaults_both n l (e ∷ es) fs = second_defaults_both n l es fs

second_defaults_along : GoesAlong second_defaults
second_defaults_along = record { none = λ n l. refl; both = second_defaults_both }

module _ (n m : ℕ) (l k : TokenList) (a : ℕ) where
  second_defaults_to : (es : List Event) → second_defaults n l (map (moved_event a) es) ≡ [] → second_defaults m k es ≡ []
  second_defaults_to [] e = refl
  second_defaults_to (event.SecondDefault i ∷ es) e = cc
  second_defaults_to (event.Import i ∷ es) e = second_defaults_to es e
  second_defaults_to (event.Declaration d ∷ es) e = second_defaults_to es e
  second_defaults_to (event.Use u ∷ es) e = second_defaults_to es e
  second_defaults_to (event.Member o g i ∷ es) e = second_defaults_to es e
  second_defaults_to (event.Bodiless i j ∷ es) e = second_defaults_to es e
  second_defaults_to (event.Statement i j ∷ es) e = second_defaults_to es e
  second_defaults_to (event.Misplaced i j ∷ es) e = second_defaults_to es e

  second_defaults_from : (es : List Event) → second_defaults m k es ≡ [] → second_defaults n l (map (moved_event a) es) ≡ []
  second_defaults_from [] e = refl
  second_defaults_from (event.SecondDefault i ∷ es) e = cc
  second_defaults_from (event.Import i ∷ es) e = second_defaults_from es e
  second_defaults_from (event.Declaration d ∷ es) e = second_defaults_from es e
  second_defaults_from (event.Use u ∷ es) e = second_defaults_from es e
  second_defaults_from (event.Member o g i ∷ es) e = second_defaults_from es e
  second_defaults_from (event.Bodiless i j ∷ es) e = second_defaults_from es e
  second_defaults_from (event.Statement i j ∷ es) e = second_defaults_from es e
  second_defaults_from (event.Misplaced i j ∷ es) e = second_defaults_from es e

-- No switch of a function has a second default.
abbrev pub HasDefaults : ℕ → Function → Type 0
HasDefaults n f = own_second_defaults (function_alone f) ≡ []

pub second_defaults_by_functions : (fs : List File) → AreRead fs → AreNamed fs → Iff (of_files second_defaults 0 (units_of fs) ≡ []) ((of_files second_defaults 0 (outside_units fs) ≡ []) × EachOwn HasDefaults 0 fs)
second_defaults_by_functions fs h g =
    rule_by_functions fs second_defaults second_defaults_along HasDefaults own 0 fs (λ k. let z : 0 + k ≡ k = omega arith in ap (slice_get fs) z) h g
  where
    own : IsOwnRule fs second_defaults second_defaults_along HasDefaults
    own n f r s t stands named =
        let es : List Event = function_events (alone f.tokens t) in
        let e : told_in f t ≡ map (moved_event (first t)) es = bodies.tell fs n f r s t stands in
        record {
          to = λ x. second_defaults_to n 0 f.tokens no_tokens (first t) es (ap (second_defaults n f.tokens) (sym e) ∙ x);
          from = λ x. ap (second_defaults n f.tokens) e ∙ second_defaults_from n 0 f.tokens no_tokens (first t) es x;
        }
