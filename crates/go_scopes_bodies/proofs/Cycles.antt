-- No declaration needs itself: function by function.
use Rattle.std.proofs.Common.{◌≡◌, ◌∙◌, ℕ, suc, ◌+◌, ◌≤◌, Bool, true, false, List, [], ◌∷◌, ◌++◌, map, length, Some, refl, sym, ap, subst, arith}
use Rattle.std.specs.Prelude.{if◌then◌else◌, not, slice_get}
use Rattle.go_tokens.specs.Tokens.{TokenList, kinds}
use Rattle.go_grammar.specs.Trees.{Tree, first, last, parts}
use Rattle.go_tree.specs.declared.event.Event.{Event}
use Rattle.go_tree.specs.Contexts.{is_package, file_context}
use Rattle.go_tree.specs.Declarations.{Found, found, found_in, found_from, new_among, declarations}
use Rattle.go_tree.specs.Failures.{place_if, of_files}
use Rattle.go_tree.specs.Lists.{functions}
use Rattle.go_tree.specs.Lookups.{Asked}
use Rattle.go_tree.specs.Needs.{needs_itself, cycles}
use Rattle.go_tree.specs.Units as names
use Rattle.go_scopes_events.specs.Moved.{moved_block}
use Rattle.go_scopes_events.proofs.Public.{IsLaidOut, each_map}
use Rattle.go_heads.specs.Functions.{Function, AreRead, function_alone, functions_in}
use Rattle.go_heads.specs.Heads.{File, IsRead, in_bodies}
use Rattle.go_heads.specs.Locals.{HaveNames, AreNamed}
use Rattle.go_heads.specs.Names.{own_declarations, in_file}
use Rattle.go_heads.specs.Objects.{units_of}
use Rattle.go_heads.specs.Told.{file_events}
use Rattle.go_heads.proofs.Public.{AllStand, Every, Lies, Shared, file_stands, found_append, new_append}
use Rattle.go_heads.proofs.Public as heads
use Rattle.go_scopes_bodies.specs.Faults.{shared, own_asked, own_cycles, all_asked, outer_in}
use Rattle.go_scopes_bodies.specs.Meant.{outer_of}
use Rattle.go_scopes_bodies.specs.Outside.{outside_events, outside_units}
use Rattle.go_scopes_bodies.proofs.Clashes.{kept, kept_both, is_local}
use Rattle.go_scopes_bodies.proofs.Each.{Iff, EachOwn}
use Rattle.go_scopes_bodies.proofs.EnoughRounds.{BoundRounds, NoneItself, none_cycles, cycles_none, fewer_rounds, enough_rounds}
use Rattle.go_scopes_bodies.proofs.Lying.{AllLie, tree_lies}
use Rattle.go_scopes_bodies.proofs.Nothing.{IsPlainName, outside_plain, each_file}
use Rattle.go_scopes_bodies.proofs.Once.{around_none}
use Rattle.go_scopes_bodies.proofs.OwnNeeds.{IsOwnOne, all_own, declared, never_itself, local_itself}
use Rattle.go_scopes_bodies.proofs.Pieces.{file_pieces}
use Rattle.go_scopes_bodies.proofs.Rules.{EventRule, GoesAlong, IsFileRule, apart, again, told_in, rule_by_files}
use Rattle.go_scopes_bodies.proofs.Sources.{IsAround, all_around}

-- ---- lists

cycles_both : (asks : List Asked) (k : ℕ) (xs ys : List Found) → cycles asks k (xs ++ ys) ≡ cycles asks k xs ++ cycles asks k ys
cycles_both asks k [] ys = refl
cycles_both asks k (d ∷ xs) ys = by (needs_itself asks k d) (cycles_both asks k xs ys)
  where
    by : (b : Bool) → cycles asks k (xs ++ ys) ≡ cycles asks k xs ++ cycles asks k ys → place_if b d.place (cycles asks k (xs ++ ys)) ≡ place_if b d.place (cycles asks k xs) ++ cycles asks k ys
    by true e = ap (λ ps. d.place ∷ ps) e
    by false e = e

-- names of the package, and locals
module _ (asks : List Asked) (k : ℕ) where
  split : (ds : List Found) → NoneItself asks k ds → NoneItself asks k (shared ds) × NoneItself asks k (kept is_local ds)
  split [] h = (tt, tt)
  split (d ∷ ds) h = by (is_package d.it.block) (split ds h.1)
    where
      by : (b : Bool) → NoneItself asks k (shared ds) × NoneItself asks k (kept is_local ds) → NoneItself asks k (if b then d ∷ shared ds else shared ds) × NoneItself asks k (if not b then d ∷ kept is_local ds else kept is_local ds)
      by true x = ((h.0, x.0), x.1)
      by false x = (x.0, (h.0, x.1))

  join : (ds : List Found) → NoneItself asks k (shared ds) → NoneItself asks k (kept is_local ds) → NoneItself asks k ds
  join [] x y = tt
  join (d ∷ ds) x y = by (is_package d.it.block) x y (join ds)
    where
      by : (b : Bool) → NoneItself asks k (if b then d ∷ shared ds else shared ds) → NoneItself asks k (if not b then d ∷ kept is_local ds else kept is_local ds)
          → (NoneItself asks k (shared ds) → NoneItself asks k (kept is_local ds) → NoneItself asks k ds) → NoneItself asks k (d ∷ ds)
      by true x y go = (x.0, go x.1 y)
      by false x y go = (y.0, go x y.1)

-- ---- a function

-- No declaration of a function needs itself, by itself.
abbrev pub HasOrder : List File → ℕ → Function → Type 0
HasOrder fs n f = own_cycles (function_alone f) (outer_in fs n) ≡ []

module _ (law : BoundRounds) (fs : List File) (h : AreRead fs) where
  abbrev all_names : List Found
  all_names = declarations (units_of fs)

  abbrev asks : List Asked
  asks = all_asked fs

  abbrev rounds : ℕ
  rounds = length all_names + length all_names

  -- the locals that need themselves, of some events
  abbrev rule : EventRule
  rule n l es = cycles asks rounds (kept is_local (new_among (found (units_of fs)) (found_in n l es)))

  rule_both : (n : ℕ) (l : TokenList) (es gs : List Event) → rule n l (es ++ gs) ≡ rule n l es ++ rule n l gs
  rule_both n l es gs =
      ap (λ ds. cycles asks rounds (kept is_local (new_among (found (units_of fs)) ds))) (found_append n l es gs)
      ∙ ap (λ ds. cycles asks rounds (kept is_local ds)) (new_append (found (units_of fs)) (found_in n l es) (found_in n l gs))
      ∙ ap (cycles asks rounds) (kept_both is_local (new_among (found (units_of fs)) (found_in n l es)) (new_among (found (units_of fs)) (found_in n l gs)))
      ∙ cycles_both asks rounds (kept is_local (new_among (found (units_of fs)) (found_in n l es))) (kept is_local (new_among (found (units_of fs)) (found_in n l gs)))

  along : GoesAlong rule
  along = record { none = λ n l. refl; both = rule_both }

  by_files : (n : ℕ) (us : List names.Unit) → cycles asks rounds (kept is_local (new_among (found (units_of fs)) (found_from n us))) ≡ of_files rule n us
  by_files n [] = refl
  by_files n (u ∷ us) =
      ap (λ ds. cycles asks rounds (kept is_local ds)) (new_append (found (units_of fs)) (found_in n u.tokens u.events) (found_from (suc n) us))
      ∙ ap (cycles asks rounds) (kept_both is_local (new_among (found (units_of fs)) (found_in n u.tokens u.events)) (new_among (found (units_of fs)) (found_from (suc n) us)))
      ∙ cycles_both asks rounds (kept is_local (new_among (found (units_of fs)) (found_in n u.tokens u.events))) (kept is_local (new_among (found (units_of fs)) (found_from (suc n) us)))
      ∙ ap (λ ps. rule n u.tokens u.events ++ ps) (by_files (suc n) us)

  length_both : (xs ys : List Found) → length (xs ++ ys) ≡ length xs + length ys
  length_both [] ys = omega arith
  length_both (x ∷ xs) ys = omega (arith, length_both xs ys)

  length_map : (g : Found → Found) (xs : List Found) → length (map g xs) ≡ length xs
  length_map g [] = refl
  length_map g (x ∷ xs) = ap suc (length_map g xs)

  module _ (n : ℕ) (f : Function) (lies : Lies fs n f) (around : IsAround (file_events f.file) (told_in f.file f.tree) (first f.tree) (last f.tree)) (read : IsRead f.file) where
    abbrev own : List Found
    own = own_declarations (function_alone f)

    abbrev asks_own : List Asked
    asks_own = own_asked (function_alone f) (outer_of (units_of fs) n)

    abbrev up : Found → Found
    up = in_file n f.file.tokens (first f.tree)

    abbrev IsOwn : Found → Type 0
    IsOwn = IsOwnOne fs h n f lies around

    as_many : length own ≤ length all_names
    as_many =
        let l : TokenList = f.file.tokens in
        let among : List Found = found (units_of fs) in
        let before : List Found = heads.before fs n f.file read lies.there f.tree lies.stands in
        let behind : List Found = heads.behind fs n f.file read lies.there f.tree lies.stands in
        let told : List Found = found_in n l (told_in f.file f.tree) in
        let mine : new_among among told ≡ map up own = (heads.declares fs n f.file read lies.there f.tree lies.stands).declared in
        let whole : all_names ≡ new_among among before ++ (map up own ++ new_among among behind) =
        ap (new_among among) (heads.all_names fs n f.file read lies.there f.tree lies.stands ∙ ap (λ ds. before ++ (ds ++ behind)) (sym (heads.names_moved fs n f.file read lies.there f.tree lies.stands)))
        ∙ new_append among before (told ++ behind)
        ∙ ap (λ ds. new_among among before ++ ds) (new_append among told behind ∙ ap (λ ds. ds ++ new_among among behind) mine) in
        omega (arith, ap length whole, length_both (new_among among before) (map up own ++ new_among among behind), length_both (map up own) (new_among among behind), length_map up own)

    to_own : (ds : List Found) → Every IsOwn ds → NoneItself asks rounds (kept is_local (map up ds)) → NoneItself asks_own rounds ds
    to_own [] g e = tt
    to_own (d ∷ ds) g e = by (is_package (moved_block (first f.tree) d.it.block)) refl e (to_own ds g.1)
      where
        by : (b : Bool) → is_package (moved_block (first f.tree) d.it.block) ≡ b → NoneItself asks rounds (if not b then up d ∷ kept is_local (map up ds) else kept is_local (map up ds))
            → (NoneItself asks rounds (kept is_local (map up ds)) → NoneItself asks_own rounds ds) → NoneItself asks_own rounds (d ∷ ds)
        by true p e go = (never_itself fs h n f lies around rounds d g.0 p, go e)
        by false p e go = (sym (local_itself fs h n f lies around rounds d g.0 p) ∙ e.0, go e.1)

    from_own : (ds : List Found) → Every IsOwn ds → NoneItself asks_own rounds ds → NoneItself asks rounds (kept is_local (map up ds))
    from_own [] g e = tt
    from_own (d ∷ ds) g e = by (is_package (moved_block (first f.tree) d.it.block)) refl (from_own ds g.1 e.1)
      where
        by : (b : Bool) → is_package (moved_block (first f.tree) d.it.block) ≡ b → NoneItself asks rounds (kept is_local (map up ds)) → NoneItself asks rounds (if not b then up d ∷ kept is_local (map up ds) else kept is_local (map up ds))
        by true p rest = rest
        by false p rest = (local_itself fs h n f lies around rounds d g.0 p ∙ e.0, rest)

    own_order : Iff (rule n f.file.tokens (told_in f.file f.tree) ≡ []) (HasOrder fs n f)
    own_order =
        let l : TokenList = f.file.tokens in
        let each : Every IsOwn own = all_own fs h n f lies around in
        let mine : new_among (found (units_of fs)) (found_in n l (told_in f.file f.tree)) ≡ map up own = (heads.declares fs n f.file read lies.there f.tree lies.stands).declared in
        let fewer : length own + length own ≤ rounds = omega (arith, as_many) in
        record {
          to =
              λ e.
              none_cycles asks_own (length own + length own) own
              (fewer_rounds asks_own (length own + length own) rounds own fewer
              (to_own own each (cycles_none asks rounds (kept is_local (map up own)) (sym (ap (λ ds. cycles asks rounds (kept is_local ds)) mine) ∙ e))));
          from =
              λ e.
              ap (λ ds. cycles asks rounds (kept is_local ds)) mine
              ∙ none_cycles asks rounds (kept is_local (map up own)) (from_own own each (enough_rounds law asks_own own (declared fs h n f lies around) (cycles_none asks_own (length own + length own) own e) rounds));
        }

  -- ---- a file

  module _ (n : ℕ) (f : File) (r : IsRead f) (there : slice_get fs n ≡ Some f) where
    abbrev StandIn : List Tree → Type 0
    StandIn ts = AllStand (kinds f.tokens.tokens) (in_bodies (parts f.tree)) (last f.tree) (file_events f) ts

    abbrev in_f : Tree → Function
    in_f t = record { file = f; tree = t }

    abbrev There : Tree → Type 0
    There t = rule n f.tokens (told_in f t) ≡ []

    abbrev Around : Tree → Type 0
    Around t = IsAround (file_events f) (told_in f t) (first t) (last t)

    each_to : (ts : List Tree) → StandIn ts → HaveNames f.tokens ts → Every Around ts → Every There ts → Every (HasOrder fs n) (map in_f ts)
    each_to [] s g x e = tt
    each_to (t ∷ ts) s g x e = ((own_order n (in_f t) (record { there = there; stands = s.0; named = g.0 }) x.0 r).to e.0, each_to ts s.1 g.1 x.1 e.1)

    each_from : (ts : List Tree) → StandIn ts → HaveNames f.tokens ts → Every Around ts → Every (HasOrder fs n) (map in_f ts) → Every There ts
    each_from [] s g x e = tt
    each_from (t ∷ ts) s g x e = ((own_order n (in_f t) (record { there = there; stands = s.0; named = g.0 }) x.0 r).from e.0, each_from ts s.1 g.1 x.1 e.1)

    lies_in : (t : Tree) → IsLaidOut t → AllLie (first t) (last t) (told_in f t)
    lies_in t laid = tree_lies (first t) (last t) (file_context (last f.tree)) t laid (omega arith) (omega arith) tt tt tt (tt, tt, tt)

    one_file : HaveNames f.tokens (functions (parts f.tree)) → Iff (rule n f.tokens (file_events f) ≡ []) ((rule n f.tokens (outside_events f) ≡ []) × Every (HasOrder fs n) (functions_in f))
    one_file g =
        let ts : List Tree = functions (parts f.tree) in
        let p = file_pieces (kinds f.tokens.tokens) f.tree r.tree in
        let stand : StandIn ts = file_stands (kinds f.tokens.tokens) f.tree r.tree in
        let around : Every Around ts = subst (Every Around) (sym p.trees) (all_around (told_in f) lies_in (file_events f) p.pieces p.placed p.whole) in
        record {
          to =
              λ e.
              let x = apart rule along n f.tokens (told_in f) p.pieces (ap (rule n f.tokens) (sym p.whole) ∙ e) in
              (ap (rule n f.tokens) p.outside ∙ x.0, each_to ts stand g around (subst (Every There) (sym p.trees) x.1));
          from =
              λ e.
              ap (rule n f.tokens) p.whole
              ∙ again rule along n f.tokens (told_in f) p.pieces (ap (rule n f.tokens) (sym p.outside) ∙ e.0) (subst (Every There) p.trees (each_from ts stand g around e.1));
        }

  file_rule : IsFileRule fs rule (HasOrder fs)
  file_rule n f r there g = one_file n f r there g

  -- no local stands outside of functions
  none_outside : of_files rule 0 (outside_units fs) ≡ []
  none_outside = each_file rule none 0 fs h
    where
      none : (n : ℕ) (f : File) → IsRead f → rule n f.tokens (outside_events f) ≡ []
      none n f r = ap (cycles asks rounds) (around_none fs n f.tokens (outside_events f) (each_map IsPlainName Shared (outside_events f) (λ d x. x.0) (outside_plain f r)))

  -- No declaration needs itself where none of the package does, and none of a function by itself.
  pub cycles_by_functions : AreNamed fs → Iff (cycles asks rounds all_names ≡ []) ((cycles asks rounds (shared all_names) ≡ []) × EachOwn (HasOrder fs) 0 fs)
  cycles_by_functions g =
      let law = rule_by_files fs rule (HasOrder fs) file_rule 0 fs (λ k. let z : 0 + k ≡ k = omega arith in ap (slice_get fs) z) h g in
      record {
        to =
            λ e.
            let x = split asks rounds all_names (cycles_none asks rounds all_names e) in
            (none_cycles asks rounds (shared all_names) x.0, (law.to (sym (by_files 0 (units_of fs)) ∙ none_cycles asks rounds (kept is_local all_names) x.1)).1);
        from =
            λ e.
            none_cycles asks rounds all_names
            (join asks rounds all_names (cycles_none asks rounds (shared all_names) e.0)
            (cycles_none asks rounds (kept is_local all_names) (by_files 0 (units_of fs) ∙ law.from (none_outside, e.1))));
      }
