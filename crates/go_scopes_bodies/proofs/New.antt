-- That one name at least before `:=` is new: function by function.
use Rattle.std.proofs.Common.{◌≡◌, ◌∙◌, ℕ, suc, ◌+◌, ◌-◌, ◌<◌, ◌≤◌, Bool, true, false, List, [], ◌∷◌, ◌++◌, map, Some, refl, sym, ap, subst, arith}
use Rattle.std.specs.Prelude.{◌&&◌, ◌||◌, not, nat_eq, slice_get}
use Rattle.std.proofs.lemmas.Bool.Decides.{nat_tests}
use Rattle.go_tokens.specs.Tokens.{TokenList, kinds}
use Rattle.go_grammar.specs.declared.kind.Category.TheVariants as category
use Rattle.go_grammar.specs.Trees.{Tree, first, last, parts}
use Rattle.go_tree.specs.declared.context.Block.{Block}
use Rattle.go_tree.specs.declared.context.Block.TheVariants as block
use Rattle.go_tree.specs.declared.context.Manner.TheVariants as manner
use Rattle.go_tree.specs.declared.event.Declaration.{Declaration}
use Rattle.go_tree.specs.declared.event.Event.{Event}
use Rattle.go_tree.specs.declared.event.Event.TheVariants as event
use Rattle.go_tree.specs.Contexts.{is_package, file_context}
use Rattle.go_tree.specs.Declarations.{Found, found, found_in, found_from, new_among, declarations}
use Rattle.go_tree.specs.Failures.{place_if, of_files}
use Rattle.go_tree.specs.Redeclared.{is_by_define, same_statement, has_new, none_new}
use Rattle.go_tree.specs.Units as names
use Rattle.go_scopes_events.specs.Moved.{moved_event}
use Rattle.go_scopes_events.specs.Orders.{EachDeclared}
use Rattle.go_scopes_events.proofs.Public.{IsLaidOut, derives_laid, events_order}
use Rattle.go_heads.specs.Bodies.{function_events}
use Rattle.go_heads.specs.Functions.{Function, AreRead, Alone, alone, function_alone}
use Rattle.go_heads.specs.Heads.{File, IsRead, in_bodies}
use Rattle.go_heads.specs.Locals.{AreNamed}
use Rattle.go_heads.specs.Names.{own_text, found_by, own_names, own_declarations, in_file}
use Rattle.go_heads.specs.Objects.{units_of}
use Rattle.go_heads.specs.Told.{file_events}
use Rattle.go_heads.proofs.Public.{In, Every, Other, every_append, every_new, IsHeaded, file_headed, each_right, Stands, NamesIn, ordered_names, found_append, new_append, eq_moved}
use Rattle.go_heads.proofs.Public as bodies
use Rattle.go_scopes_bodies.specs.Faults.{own_none_new}
use Rattle.go_scopes_bodies.specs.Outside.{outside_units}
use Rattle.go_scopes_bodies.proofs.Each.{Iff, EachOwn}
use Rattle.go_scopes_bodies.proofs.Lists.{place_both, place_to, or_assoc, or_nothing, first_false, second_false, third_false}
use Rattle.go_scopes_bodies.proofs.Rules.{EventRule, GoesAlong, IsOwnRule, told_in, rule_by_functions}
use Rattle.go_scopes_bodies.proofs.Lying.{BlockBefore, AllLie, tree_lies, lie_left, lie_right}
use Rattle.go_scopes_bodies.proofs.Once.{own_files}

-- ---- along declarations

none_both : (ds xs ys : List Found) → none_new ds (xs ++ ys) ≡ none_new ds xs ++ none_new ds ys
none_both ds [] ys = refl
none_both ds (x ∷ xs) ys =
    ap (place_if (is_by_define x.it.manner && nat_eq x.it.column 0 && not (has_new x ds)) x.place) (none_both ds xs ys)
    ∙ place_both (is_by_define x.it.manner && nat_eq x.it.column 0 && not (has_new x ds)) x.place (none_new ds xs) (none_new ds ys)

abbrev pub new_rule : List Found → EventRule
new_rule ds n l es = none_new ds (found_in n l es)

new_along : (ds : List Found) → GoesAlong (new_rule ds)
new_along ds = record { none = λ n l. refl; both = λ n l es fs. ap (none_new ds) (found_append n l es fs) ∙ none_both ds (found_in n l es) (found_in n l fs) }

pub new_by_files : (ds : List Found) (n : ℕ) (us : List names.Unit) → none_new ds (found_from n us) ≡ of_files (new_rule ds) n us
new_by_files ds n [] = refl
new_by_files ds n (u ∷ us) = none_both ds (found_in n u.tokens u.events) (found_from (suc n) us) ∙ ap (λ ps. none_new ds (found_in n u.tokens u.events) ++ ps) (new_by_files ds (suc n) us)

-- ---- names of other statements

new_both : (d : Found) (xs ys : List Found) → has_new d (xs ++ ys) ≡ (has_new d xs || has_new d ys)
new_both d [] ys = refl
new_both d (x ∷ xs) ys = ap (λ b. same_statement d x || b) (new_both d xs ys) ∙ or_assoc (same_statement d x) (has_new d xs) (has_new d ys)

-- It isn't declared by a statement of the file n that begins from the token lo on and before the token hi.
abbrev Distant : ℕ → ℕ → ℕ → Found → Type 0
Distant n lo hi d = (s : ℕ) → lo ≤ s → s < hi → (nat_eq n d.file && nat_eq s d.it.statement && is_by_define d.it.manner) ≡ false

none_near : (x : Found) (n lo hi : ℕ) → x.file ≡ n → lo ≤ x.it.statement → x.it.statement < hi → (ds : List Found) → Every (Distant n lo hi) ds → has_new x ds ≡ false
none_near x n lo hi e from upto [] h = refl
none_near x n lo hi e from upto (d ∷ ds) h =
    let here : same_statement x d ≡ false = ap (λ k. nat_eq k d.file && nat_eq x.it.statement d.it.statement && is_by_define d.it.manner) e ∙ h.0 x.it.statement from upto in
    ap (λ b. b || has_new x ds) here ∙ none_near x n lo hi e from upto ds h.1

other_distant : (n lo hi : ℕ) (ds : List Found) → Every (Other n) ds → Every (Distant n lo hi) ds
other_distant n lo hi [] h = tt
other_distant n lo hi (d ∷ ds) h = (λ s from upto. first_false (nat_eq n d.file) (nat_eq s d.it.statement) (is_by_define d.it.manner) h.0, other_distant n lo hi ds h.1)

unlike : (x y : ℕ) → y < x → nat_eq x y ≡ false
unlike x y lt = grind (arith, nat_tests)

unlike_too : (x y : ℕ) → x < y → nat_eq x y ≡ false
unlike_too x y lt = grind (arith, nat_tests)

-- in front
front_distant : (n : ℕ) (l : TokenList) (lo hi z : ℕ) (es : List Event) → NamesIn 0 lo es → AllLie 0 z es → Every (Distant n lo hi) (found_in n l es)
front_distant n l lo hi z [] h g = tt
front_distant n l lo hi z (event.Declaration d ∷ es) h g =
    (λ s from upto. second_false (nat_eq n n) (nat_eq s d.statement) (is_by_define d.manner) (unlike s d.statement (omega (arith, from, g.0.1, h.1))), front_distant n l lo hi z es h.2 g.1)
front_distant n l lo hi z (event.Use u ∷ es) h g = front_distant n l lo hi z es h.2 g.1
front_distant n l lo hi z (event.Import i ∷ es) h g = front_distant n l lo hi z es h g.1
front_distant n l lo hi z (event.Member m o i ∷ es) h g = front_distant n l lo hi z es h g.1
front_distant n l lo hi z (event.Bodiless i j ∷ es) h g = front_distant n l lo hi z es h g.1
front_distant n l lo hi z (event.Statement i j ∷ es) h g = front_distant n l lo hi z es h g.1
front_distant n l lo hi z (event.Misplaced i j ∷ es) h g = front_distant n l lo hi z es h g.1
front_distant n l lo hi z (event.SecondDefault i ∷ es) h g = front_distant n l lo hi z es h g.1

-- behind: a name before `:=` is a local, whose block begins there
abbrev IsDefined : Declaration → Type 0
IsDefined d = is_package d.block ≡ true → d.manner ≡ manner.Declared

behind_distant : (n lo hi z e : ℕ) (d : Declaration) → In hi e d.block → IsDefined d → (is_by_define d.manner ≡ true → BlockBefore d.block d.statement)
    → (s : ℕ) → lo ≤ s → s < hi → (nat_eq n n && nat_eq s d.statement && is_by_define d.manner) ≡ false
behind_distant n lo hi z e d within m h s from upto = by (is_by_define d.manner) refl
  where
    local : (b : Block) → In hi e b → (is_package b ≡ true → d.manner ≡ manner.Declared) → BlockBefore b d.statement → is_by_define d.manner ≡ true → hi ≤ d.statement
    local block.Package i m h f = let g : is_by_define d.manner ≡ false = ap is_by_define (m refl) in cc
    local (block.Local i) w m h f = omega (arith, w.0, h)

    by : (b : Bool) → is_by_define d.manner ≡ b → (nat_eq n n && nat_eq s d.statement && is_by_define d.manner) ≡ false
    by false f = third_false (nat_eq n n) (nat_eq s d.statement) (is_by_define d.manner) f
    by true f = second_false (nat_eq n n) (nat_eq s d.statement) (is_by_define d.manner) (unlike_too s d.statement (let le : hi ≤ d.statement = local d.block within m (h f) f in omega (arith, upto, le)))

back_distant : (n : ℕ) (l : TokenList) (lo hi z e : ℕ) (es : List Event) → EachDeclared (λ d. In hi e d.block) es → EachDeclared IsDefined es → AllLie 0 z es → Every (Distant n lo hi) (found_in n l es)
back_distant n l lo hi z e [] h m g = tt
back_distant n l lo hi z e (event.Declaration d ∷ es) h m g = (behind_distant n lo hi z e d h.0 m.0 g.0.2, back_distant n l lo hi z e es h.1 m.1 g.1)
back_distant n l lo hi z e (event.Use u ∷ es) h m g = back_distant n l lo hi z e es h m g.1
back_distant n l lo hi z e (event.Import i ∷ es) h m g = back_distant n l lo hi z e es h m g.1
back_distant n l lo hi z e (event.Member k o i ∷ es) h m g = back_distant n l lo hi z e es h m g.1
back_distant n l lo hi z e (event.Bodiless i j ∷ es) h m g = back_distant n l lo hi z e es h m g.1
back_distant n l lo hi z e (event.Statement i j ∷ es) h m g = back_distant n l lo hi z e es h m g.1
back_distant n l lo hi z e (event.Misplaced i j ∷ es) h m g = back_distant n l lo hi z e es h m g.1
back_distant n l lo hi z e (event.SecondDefault i ∷ es) h m g = back_distant n l lo hi z e es h m g.1

-- ---- in a function

-- a name of a function by itself, whose statement stands in it
record StandsWithin (width : ℕ) (x : Found) : Type 0 where
  file : x.file ≡ 0
  statement : x.it.statement < width

within_found : (w : ℕ → List ℕ) (a hi : ℕ) (es : List Event) → NamesIn a hi (map (moved_event a) es) → AllLie a hi (map (moved_event a) es) → Every (StandsWithin (hi - a)) (found_by w es)
within_found w a hi [] h g = tt
within_found w a hi (event.Declaration d ∷ es) h g = (record { file = refl; statement = omega (arith, h.1, g.0.1) }, within_found w a hi es h.2 g.1)
within_found w a hi (event.Use u ∷ es) h g = within_found w a hi es h.2 g.1
within_found w a hi (event.Import i ∷ es) h g = within_found w a hi es h g.1
within_found w a hi (event.Member m o i ∷ es) h g = within_found w a hi es h g.1
within_found w a hi (event.Bodiless i j ∷ es) h g = within_found w a hi es h g.1
within_found w a hi (event.Statement i j ∷ es) h g = within_found w a hi es h g.1
within_found w a hi (event.Misplaced i j ∷ es) h g = within_found w a hi es h g.1
within_found w a hi (event.SecondDefault i ∷ es) h g = within_found w a hi es h g.1

module _ (n : ℕ) (l : TokenList) (a : ℕ) where
  abbrev up : Found → Found
  up = in_file n l a

  same_up : (d x : Found) → d.file ≡ 0 → x.file ≡ 0 → same_statement (up d) (up x) ≡ same_statement d x
  same_up d x e f =
      let z : nat_eq n n ≡ nat_eq d.file x.file = let y : nat_eq n n ≡ true = grind (arith, nat_tests) in let k : nat_eq d.file x.file ≡ true = grind (arith, nat_tests) in y ∙ sym k in
      ap (λ b. b && nat_eq (a + d.it.statement) (a + x.it.statement) && is_by_define x.it.manner) z
      ∙ ap (λ b. nat_eq d.file x.file && b && is_by_define x.it.manner) (eq_moved a d.it.statement x.it.statement)

  new_up : (d : Found) (xs : List Found) → d.file ≡ 0 → Every (λ x. x.file ≡ 0) xs → has_new (up d) (map up xs) ≡ has_new d xs
  new_up d [] e h = refl
  new_up d (x ∷ xs) e h = ap (λ b. b || has_new (up d) (map up xs)) (same_up d x e h.0) ∙ ap (λ b. same_statement d x || b) (new_up d xs e h.1)

  module _ (width : ℕ) (ds own : List Found) (same : (x : Found) → StandsWithin width x → has_new (up x) ds ≡ has_new x own) where
    test_same : (x : Found) → StandsWithin width x → (is_by_define x.it.manner && nat_eq x.it.column 0 && not (has_new (up x) ds)) ≡ (is_by_define x.it.manner && nat_eq x.it.column 0 && not (has_new x own))
    test_same x h = ap (λ b. is_by_define x.it.manner && nat_eq x.it.column 0 && not b) (same x h)

    new_to : (xs : List Found) → Every (StandsWithin width) xs → none_new ds (map up xs) ≡ [] → none_new own xs ≡ []
    new_to [] h e = refl
    new_to (x ∷ xs) h e =
        place_to (is_by_define x.it.manner && nat_eq x.it.column 0 && not (has_new (up x) ds)) (is_by_define x.it.manner && nat_eq x.it.column 0 && not (has_new x own)) (up x).place x.place (none_new ds (map up xs)) (none_new own xs)
        (test_same x h.0) (new_to xs h.1) e

    new_from : (xs : List Found) → Every (StandsWithin width) xs → none_new own xs ≡ [] → none_new ds (map up xs) ≡ []
    new_from [] h e = refl
    new_from (x ∷ xs) h e =
        place_to (is_by_define x.it.manner && nat_eq x.it.column 0 && not (has_new x own)) (is_by_define x.it.manner && nat_eq x.it.column 0 && not (has_new (up x) ds)) x.place (up x).place (none_new own xs) (none_new ds (map up xs))
        (sym (test_same x h.0)) (new_from xs h.1) e

module _ (fs : List File) (n : ℕ) (f : File) (read : IsRead f) (there : slice_get fs n ≡ Some f) (t : Tree)
    (stands : Stands (kinds f.tokens.tokens) (in_bodies (parts f.tree)) (last f.tree) (file_events f) t) where
  abbrev a : ℕ
  a = first t

  abbrev l : TokenList
  l = f.tokens

  abbrev by_itself : Alone
  by_itself = alone l t

  abbrev among : List Found
  among = found (units_of fs)

  abbrev told : List Event
  told = told_in f t

  abbrev end : ℕ
  end = last f.tree

  told_same : told ≡ map (moved_event a) (function_events by_itself)
  told_same = bodies.tell fs n f read there t stands

  laid : IsLaidOut t
  laid = derives_laid (kinds l.tokens) t category.Declaration stands.sits.derives

  names_in : NamesIn a (last t) told
  names_in = ordered_names a a (last t) told (omega arith) (events_order (file_context end) t laid)

  lies : AllLie a (last t) told
  lies = tree_lies a (last t) (file_context end) t laid (omega arith) (omega arith) tt tt tt (tt, tt, tt)

  own_within : Every (StandsWithin (last t - a)) (own_names by_itself)
  own_within = within_found (own_text by_itself) a (last t) (function_events by_itself) (subst (NamesIn a (last t)) told_same names_in) (subst (AllLie a (last t)) told_same lies)

  all_lie : AllLie 0 end (stands.before ++ (told ++ stands.behind))
  all_lie = subst (AllLie 0 end) stands.whole (tree_lies 0 end (file_context end) f.tree (derives_laid (kinds l.tokens) f.tree category.File read.tree.derives) (omega arith) (omega arith) tt tt tt (tt, tt, tt))

  abbrev Headed : Declaration → Type 0
  Headed = IsHeaded (kinds l.tokens) (in_bodies (parts f.tree))

  each_defined : (es : List Event) → EachDeclared Headed es → EachDeclared IsDefined es
  each_defined [] h = tt
  each_defined (event.Declaration d ∷ es) h = (λ e. (h.0 e).0, each_defined es h.1)
  each_defined (event.Use u ∷ es) h = each_defined es h
  each_defined (event.Import i ∷ es) h = each_defined es h
  each_defined (event.Member k o i ∷ es) h = each_defined es h
  each_defined (event.Bodiless i j ∷ es) h = each_defined es h
  each_defined (event.Statement i j ∷ es) h = each_defined es h
  each_defined (event.Misplaced i j ∷ es) h = each_defined es h
  each_defined (event.SecondDefault i ∷ es) h = each_defined es h

  defined_behind : EachDeclared IsDefined stands.behind
  defined_behind =
      each_defined stands.behind (each_right Headed told stands.behind (each_right Headed stands.before (told ++ stands.behind) (subst (EachDeclared Headed) stands.whole (file_headed (kinds l.tokens) f.tree read.tree))))

  distant_before : Every (Distant n a (last t)) (bodies.before fs n f read there t stands)
  distant_before =
      every_append (Distant n a (last t)) (bodies.rest fs n f read there t stands).front (found_in n l stands.before) (other_distant n a (last t) (bodies.rest fs n f read there t stands).front (bodies.rest fs n f read there t stands).front_other)
      (front_distant n l a (last t) end stands.before stands.names_before (lie_left 0 end stands.before (told ++ stands.behind) all_lie))

  distant_behind : Every (Distant n a (last t)) (bodies.behind fs n f read there t stands)
  distant_behind =
      every_append (Distant n a (last t)) (found_in n l stands.behind) (bodies.rest fs n f read there t stands).behind
      (back_distant n l a (last t) end end stands.behind stands.back defined_behind (lie_right 0 end told stands.behind (lie_right 0 end stands.before (told ++ stands.behind) all_lie)))
      (other_distant n a (last t) (bodies.rest fs n f read there t stands).behind (bodies.rest fs n f read there t stands).behind_other)

  -- the declarations of the package
  split : declarations (units_of fs) ≡ new_among among (bodies.before fs n f read there t stands) ++ (map (in_file n l a) (own_declarations by_itself) ++ new_among among (bodies.behind fs n f read there t stands))
  split =
      let before : List Found = bodies.before fs n f read there t stands in
      let behind : List Found = bodies.behind fs n f read there t stands in
      let names : List Found = map (in_file n l a) (found_by (own_text by_itself) (function_events by_itself)) in
      let own : List Found = map (in_file n l a) (own_declarations by_itself) in
      let mine : new_among among names ≡ own = ap (new_among among) (sym (bodies.names_moved fs n f read there t stands)) ∙ (bodies.declares fs n f read there t stands).declared in
      ap (new_among among) (bodies.all_names fs n f read there t stands)
      ∙ new_append among before (names ++ behind)
      ∙ ap (λ ds. new_among among before ++ ds) (new_append among names behind ∙ ap (λ ds. ds ++ new_among among behind) mine)

  new_same : (x : Found) → StandsWithin (last t - a) x → has_new (in_file n l a x) (declarations (units_of fs)) ≡ has_new x (own_declarations by_itself)
  new_same x h =
      let up : Found = in_file n l a x in
      let before : List Found = new_among among (bodies.before fs n f read there t stands) in
      let behind : List Found = new_among among (bodies.behind fs n f read there t stands) in
      let own : List Found = map (in_file n l a) (own_declarations by_itself) in
      let from : a ≤ a + x.it.statement = omega arith in
      let upto : a + x.it.statement < last t = omega (arith, h.statement) in
      ap (has_new up) split
      ∙ new_both up before (own ++ behind)
      ∙ ap (λ b. b || has_new up (own ++ behind)) (none_near up n a (last t) refl from upto before (every_new (Distant n a (last t)) among (bodies.before fs n f read there t stands) distant_before))
      ∙ new_both up own behind
      ∙ ap (λ b. has_new up own || b) (none_near up n a (last t) refl from upto behind (every_new (Distant n a (last t)) among (bodies.behind fs n f read there t stands) distant_behind))
      ∙ or_nothing (has_new up own)
      ∙ new_up n l a x (own_declarations by_itself) h.file (own_files by_itself)

  pub new_own : Iff (new_rule (declarations (units_of fs)) n l told ≡ []) (own_none_new by_itself ≡ [])
  new_own =
      let moved : found_in n l told ≡ map (in_file n l a) (own_names by_itself) = bodies.names_moved fs n f read there t stands in
      let ds : List Found = declarations (units_of fs) in
      record {
        to = λ e. new_to n l a (last t - a) ds (own_declarations by_itself) new_same (own_names by_itself) own_within (sym (ap (none_new ds) moved) ∙ e);
        from = λ e. ap (none_new ds) moved ∙ new_from n l a (last t - a) ds (own_declarations by_itself) new_same (own_names by_itself) own_within e;
      }

-- Each `:=` of a function has a new name, by itself.
abbrev pub HasNew : ℕ → Function → Type 0
HasNew n f = own_none_new (function_alone f) ≡ []

pub none_new_by_functions : (fs : List File) → AreRead fs → AreNamed fs
    → Iff (none_new (declarations (units_of fs)) (found (units_of fs)) ≡ []) ((none_new (declarations (units_of fs)) (found (outside_units fs)) ≡ []) × EachOwn HasNew 0 fs)
none_new_by_functions fs h g =
    let ds : List Found = declarations (units_of fs) in
    let law = rule_by_functions fs (new_rule ds) (new_along ds) HasNew own 0 fs (λ k. let z : 0 + k ≡ k = omega arith in ap (slice_get fs) z) h g in
    record {
      to = λ e. let x = law.to (sym (new_by_files ds 0 (units_of fs)) ∙ e) in (new_by_files ds 0 (outside_units fs) ∙ x.0, x.1);
      from = λ e. new_by_files ds 0 (units_of fs) ∙ law.from (sym (new_by_files ds 0 (outside_units fs)) ∙ e.0, e.1);
    }
  where
    own : IsOwnRule fs (new_rule (declarations (units_of fs))) (new_along (declarations (units_of fs))) HasNew
    own n f r s t stands named = new_own fs n f r s t stands
