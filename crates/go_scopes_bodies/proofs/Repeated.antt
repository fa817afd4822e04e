-- That no constant hides a name of a list that is repeated: function by function.
use Rattle.std.proofs.Common.{◌≡◌, ◌∙◌, ℕ, ◌+◌, ◌-◌, ◌<◌, ◌≤◌, Bool, true, false, List, [], ◌∷◌, ◌++◌, map, Option, Some, None, refl, sym, ap, subst, append_assoc, arith}
use Rattle.std.specs.Prelude.{◌&&◌, ◌||◌, not, nat_eq, if◌then◌else◌}
use Rattle.std.proofs.lemmas.Bool.Decides.{nat_tests}
use Rattle.go_tokens.specs.Spellings.{same_text}
use Rattle.go_tokens.specs.Tokens.{TokenList}
use Rattle.go_grammar.specs.Trees.{first, last}
use Rattle.go_tree.specs.declared.context.Block.{Block}
use Rattle.go_tree.specs.declared.context.Block.TheVariants as block
use Rattle.go_tree.specs.declared.context.Entity.{Entity}
use Rattle.go_tree.specs.declared.context.Entity.TheVariants as entity
use Rattle.go_tree.specs.declared.context.Site.{Site}
use Rattle.go_tree.specs.declared.context.Site.TheVariants as site
use Rattle.go_tree.specs.declared.event.Declaration.{Declaration}
use Rattle.go_tree.specs.declared.event.Event.{Event}
use Rattle.go_tree.specs.declared.event.Event.TheVariants as event
use Rattle.go_tree.specs.declared.event.Use.{Use}
use Rattle.go_tree.specs.Constants.{is_list, list_by, list_of, list_at, list_around, uses_name, hides_one, is_hidden, is_repetition, hidden_at, hidden_lists_by, hidden_lists}
use Rattle.go_tree.specs.Contexts.{file_context}
use Rattle.go_tree.specs.Failures.{place_if}
use Rattle.go_tree.specs.Lookups.{is_local}
use Rattle.go_tree.specs.Units.{Place, word, is_blank, bytes_at}
use Rattle.go_scopes.proofs.Public.{uses_both, hides_both, hides_alike}
use Rattle.go_scopes_events.specs.Moved.{moved_token, moved_block, moved_site, moved_declaration, moved_use, moved_event}
use Rattle.go_scopes_events.proofs.Public.{events_order}
use Rattle.go_heads.specs.Bodies.{function_events}
use Rattle.go_heads.specs.Functions.{Function, AreRead, Alone, alone, function_alone}
use Rattle.go_heads.specs.Heads.{File}
use Rattle.go_heads.specs.Locals.{AreNamed}
use Rattle.go_heads.specs.Names.{own_text, no_place}
use Rattle.go_heads.specs.Objects.{units_of}
use Rattle.go_heads.proofs.Public.{NamesIn, ordered_names, eq_moved, texts_at}
use Rattle.go_heads.proofs.Public as heads
use Rattle.go_scopes_bodies.specs.Faults.{own_hidden_lists}
use Rattle.go_scopes_bodies.specs.Outside.{outside_units}
use Rattle.go_scopes_bodies.proofs.Apart.{LooksBack, BackRule, IsOwnBack, back_by_functions}
use Rattle.go_scopes_bodies.proofs.Each.{Iff, EachOwn}
use Rattle.go_scopes_bodies.proofs.Lists.{place_both, place_to, first_false}
use Rattle.go_scopes_bodies.proofs.Lying.{site_token, ListLies, AllLie}
use Rattle.go_scopes_bodies.proofs.Rules.{told_in}

-- ---- where lists begin

-- in front of a token, or from one on
abbrev ListBefore : ℕ → Option ℕ → Type 0
ListBefore z None = Unit {0}
ListBefore z (Some s) = s < z

abbrev ListFrom : ℕ → Option ℕ → Type 0
ListFrom z None = Unit {0}
ListFrom z (Some s) = z ≤ s

abbrev ListsBefore : ℕ → List Event → Type 0
ListsBefore z [] = Unit {0}
ListsBefore z (event.Use u ∷ es) = ListBefore z (list_around u) × ListsBefore z es
ListsBefore z (event.Declaration d ∷ es) = ListBefore z (list_of d) × ListsBefore z es
ListsBefore z (e ∷ es) = ListsBefore z es

abbrev ListsFrom : ℕ → List Event → Type 0
ListsFrom z [] = Unit {0}
ListsFrom z (event.Declaration d ∷ es) = ListFrom z (list_of d) × ListsFrom z es
ListsFrom z (e ∷ es) = ListsFrom z es

before_append : (z : ℕ) (xs ys : List Event) → ListsBefore z xs → ListsBefore z ys → ListsBefore z (xs ++ ys)
before_append z [] ys h k = k
before_append z (event.Use u ∷ xs) ys h k = (h.0, before_append z xs ys h.1 k)
before_append z (event.Declaration d ∷ xs) ys h k = (h.0, before_append z xs ys h.1 k)
before_append z (e ∷ xs) ys h k = before_append z xs ys h k

list_later : (y z : ℕ) (o : Option ℕ) → y ≤ z → ListBefore y o → ListBefore z o
list_later y z None le h = tt
list_later y z (Some s) le h = omega (arith, le, h)

before_later : (y z : ℕ) (xs : List Event) → y ≤ z → ListsBefore y xs → ListsBefore z xs
before_later y z [] le h = tt
before_later y z (event.Use u ∷ xs) le h = (list_later y z (list_around u) le h.0, before_later y z xs le h.1)
before_later y z (event.Declaration d ∷ xs) le h = (list_later y z (list_of d) le h.0, before_later y z xs le h.1)
before_later y z (e ∷ xs) le h = before_later y z xs le h

list_before : (lo hi : ℕ) (o : Option ℕ) → ListLies lo hi o → ListBefore hi o
list_before lo hi None h = tt
list_before lo hi (Some s) h = h.1

around_before : (lo hi : ℕ) (b : Bool) (o : Option ℕ) → ListLies lo hi o → ListBefore hi (if b then o else None)
around_before lo hi true o h = list_before lo hi o h
around_before lo hi false o h = tt

list_from : (z lo hi : ℕ) (o : Option ℕ) → z ≤ lo → ListLies lo hi o → ListFrom z o
list_from z lo hi None le h = tt
list_from z lo hi (Some s) le h = omega (arith, le, h.0)

-- a list of constants lies where their specification does
own_list : (lo hi : ℕ) (e : Entity) (o : Option ℕ) → ListLies lo hi o → ListLies lo hi (list_by e o)
own_list lo hi entity.Constant o h = h
own_list lo hi e o h = tt

list_there : (lo hi : ℕ) (x : Site) → ListLies lo hi (site_token x) → ListLies lo hi (list_at x)
list_there lo hi (site.Right s r) h = tt
list_there lo hi x h = h

lie_before : (lo hi : ℕ) (es : List Event) → AllLie lo hi es → ListsBefore hi es
lie_before lo hi [] h = tt
lie_before lo hi (event.Use u ∷ es) h = (around_before lo hi u.constant (list_at u.site) (list_there lo hi u.site h.0.1), lie_before lo hi es h.1)
lie_before lo hi (event.Declaration d ∷ es) h = (list_before lo hi (list_of d) (own_list lo hi d.entity d.source h.0.3), lie_before lo hi es h.1)
lie_before lo hi (event.Member m g x ∷ es) h = lie_before lo hi es h.1
lie_before lo hi (event.Import i ∷ es) h = lie_before lo hi es h.1
lie_before lo hi (event.Bodiless i j ∷ es) h = lie_before lo hi es h.1
lie_before lo hi (event.Statement i j ∷ es) h = lie_before lo hi es h.1
lie_before lo hi (event.Misplaced i j ∷ es) h = lie_before lo hi es h.1
lie_before lo hi (event.SecondDefault i ∷ es) h = lie_before lo hi es h.1

lie_from : (z lo hi : ℕ) (es : List Event) → z ≤ lo → AllLie lo hi es → ListsFrom z es
lie_from z lo hi [] le h = tt
lie_from z lo hi (event.Declaration d ∷ es) le h = (list_from z lo hi (list_of d) le (own_list lo hi d.entity d.source h.0.3), lie_from z lo hi es le h.1)
lie_from z lo hi (event.Use u ∷ es) le h = lie_from z lo hi es le h.1
lie_from z lo hi (event.Member m g x ∷ es) le h = lie_from z lo hi es le h.1
lie_from z lo hi (event.Import i ∷ es) le h = lie_from z lo hi es le h.1
lie_from z lo hi (event.Bodiless i j ∷ es) le h = lie_from z lo hi es le h.1
lie_from z lo hi (event.Statement i j ∷ es) le h = lie_from z lo hi es le h.1
lie_from z lo hi (event.Misplaced i j ∷ es) le h = lie_from z lo hi es le h.1
lie_from z lo hi (event.SecondDefault i ∷ es) le h = lie_from z lo hi es le h.1

-- ---- events one behind the other

unlike : (x y : ℕ) → y < x → nat_eq x y ≡ false
unlike x y lt = grind (arith, nat_tests)

other_list : (z s : ℕ) (o : Option ℕ) → z ≤ s → ListBefore z o → is_list s o ≡ false
other_list z s None le h = refl
other_list z s (Some t) le h = unlike s t (omega (arith, le, h))

not_first : (a b c : Bool) → a ≡ false → c ≡ false → ((a && b) || c) ≡ false
not_first true b c e f = ap (λ x. (x && b) || c) e ∙ f
not_first false b c e f = f

module _ (z s : ℕ) (text : ℕ → List ℕ) (le : z ≤ s) where
  uses_none : (w : List ℕ) (xs : List Event) → ListsBefore z xs → uses_name s w text xs ≡ false
  uses_none w [] h = refl
  uses_none w (event.Use u ∷ xs) h = not_first (is_list s (list_around u)) (same_text w (text u.name)) (uses_name s w text xs) (other_list z s (list_around u) le h.0) (uses_none w xs h.1)
  uses_none w (event.Declaration d ∷ xs) h = uses_none w xs h.1
  uses_none w (e ∷ xs) h = uses_none w xs h

  hides_none : (all xs : List Event) → ListsBefore z xs → hides_one s text all xs ≡ false
  hides_none all [] h = refl
  hides_none all (event.Declaration d ∷ xs) h =
      ap (λ b. b || hides_one s text all xs) (first_false (is_list s (list_of d)) (not (is_blank (text d.name))) (uses_name s (text d.name) text all) (other_list z s (list_of d) le h.0)) ∙ hides_none all xs h.1
  hides_none all (event.Use u ∷ xs) h = hides_none all xs h.1
  hides_none all (e ∷ xs) h = hides_none all xs h

-- what stands in front and has other lists doesn't matter
hidden_same : (z : ℕ) (text : ℕ → List ℕ) (o : Option ℕ) (xs ys : List Event) → ListFrom z o → ListsBefore z xs → is_hidden o text (xs ++ ys) ≡ is_hidden o text ys
hidden_same z text None xs ys le h = refl
hidden_same z text (Some s) xs ys le h =
    hides_both s text (xs ++ ys) xs ys
    ∙ ap (λ b. b || hides_one s text (xs ++ ys) ys) (hides_none z s text le (xs ++ ys) xs h)
    ∙ hides_alike s text (xs ++ ys) ys ys (λ w. uses_both s text w xs ys ∙ ap (λ b. b || uses_name s w text ys) (uses_none z s text le w xs h))

nothing_behind : (xs : List Event) → xs ++ [] ≡ xs
nothing_behind [] = refl
nothing_behind (x ∷ xs) = ap (λ ys. x ∷ ys) (nothing_behind xs)

module _ (text : ℕ → List ℕ) (place : ℕ → Place) where
  abbrev rule : List Event → List Event → List Place
  rule b es = hidden_lists_by text place b es

  lists_same : (z : ℕ) (xs ys es : List Event) → ListsBefore z xs → ListsFrom z es → rule (xs ++ ys) es ≡ rule ys es
  lists_same z xs ys [] h k = refl
  lists_same z xs ys (event.Declaration d ∷ es) h k =
      ap (λ b. place_if (is_repetition d && b) (place d.name) (rule ((xs ++ ys) ++ event.Declaration d ∷ []) es)) (hidden_same z text (list_of d) xs ys k.0 h)
      ∙ ap (λ b. place_if (is_repetition d && is_hidden (list_of d) text ys) (place d.name) (rule b es)) (append_assoc xs ys (event.Declaration d ∷ []))
      ∙ ap (place_if (is_repetition d && is_hidden (list_of d) text ys) (place d.name)) (lists_same z xs (ys ++ event.Declaration d ∷ []) es h k.1)
  lists_same z xs ys (event.Use u ∷ es) h k = ap (λ b. rule b es) (append_assoc xs ys (event.Use u ∷ [])) ∙ lists_same z xs (ys ++ event.Use u ∷ []) es h k
  lists_same z xs ys (event.Member m g x ∷ es) h k = ap (λ b. rule b es) (append_assoc xs ys (event.Member m g x ∷ [])) ∙ lists_same z xs (ys ++ event.Member m g x ∷ []) es h k
  lists_same z xs ys (event.Import i ∷ es) h k = ap (λ b. rule b es) (append_assoc xs ys (event.Import i ∷ [])) ∙ lists_same z xs (ys ++ event.Import i ∷ []) es h k
  lists_same z xs ys (event.Bodiless i j ∷ es) h k = ap (λ b. rule b es) (append_assoc xs ys (event.Bodiless i j ∷ [])) ∙ lists_same z xs (ys ++ event.Bodiless i j ∷ []) es h k
  lists_same z xs ys (event.Statement i j ∷ es) h k = ap (λ b. rule b es) (append_assoc xs ys (event.Statement i j ∷ [])) ∙ lists_same z xs (ys ++ event.Statement i j ∷ []) es h k
  lists_same z xs ys (event.Misplaced i j ∷ es) h k = ap (λ b. rule b es) (append_assoc xs ys (event.Misplaced i j ∷ [])) ∙ lists_same z xs (ys ++ event.Misplaced i j ∷ []) es h k
  lists_same z xs ys (event.SecondDefault i ∷ es) h k = ap (λ b. rule b es) (append_assoc xs ys (event.SecondDefault i ∷ [])) ∙ lists_same z xs (ys ++ event.SecondDefault i ∷ []) es h k

  lists_both : (b xs ys : List Event) → rule b (xs ++ ys) ≡ rule b xs ++ rule (b ++ xs) ys
  lists_both b [] ys = ap (λ c. rule c ys) (sym (nothing_behind b))
  lists_both b (e ∷ xs) ys =
      ap (hidden_at text place b e) (lists_both (b ++ e ∷ []) xs ys ∙ ap (λ c. rule (b ++ e ∷ []) xs ++ rule c ys) (append_assoc b (e ∷ []) xs))
      ∙ by e (rule (b ++ e ∷ []) xs) (rule (b ++ e ∷ xs) ys)
    where
      by : (e : Event) (ps qs : List Place) → hidden_at text place b e (ps ++ qs) ≡ hidden_at text place b e ps ++ qs
      by (event.Declaration d) ps qs = place_both (is_repetition d && is_hidden (list_of d) text b) (place d.name) ps qs
      by (event.Member m g x) ps qs = refl
      by (event.Use u) ps qs = refl
      by (event.Import i) ps qs = refl
      by (event.Bodiless i j) ps qs = refl
      by (event.Statement i j) ps qs = refl
      by (event.Misplaced i j) ps qs = refl
      by (event.SecondDefault i) ps qs = refl

  lists_back : LooksBack rule ListsBefore ListsFrom
  lists_back = record {
    none = λ z. tt;
    append = before_append;
    later = before_later;
    lie_before = lie_before;
    lie_from = lie_from;
    nothing = λ b. refl;
    both = lists_both;
    alone = λ z xs es h k. ap (λ b. rule b es) (sym (nothing_behind xs)) ∙ lists_same z xs [] es h k;
  }

-- ---- a function by itself

-- the names stand before a token
abbrev Within : ℕ → List Event → Type 0
Within z [] = Unit {0}
Within z (event.Use u ∷ es) = (u.name < z) × Within z es
Within z (event.Declaration d ∷ es) = (d.name < z) × Within z es
Within z (e ∷ es) = Within z es

names_within : (a hi : ℕ) (es : List Event) → NamesIn a hi (map (moved_event a) es) → Within (hi - a) es
names_within a hi [] h = tt
names_within a hi (event.Use u ∷ es) h = (omega (arith, h.1), names_within a hi es h.2)
names_within a hi (event.Declaration d ∷ es) h = (omega (arith, h.1), names_within a hi es h.2)
names_within a hi (event.Member m g x ∷ es) h = names_within a hi es h
names_within a hi (event.Import i ∷ es) h = names_within a hi es h
names_within a hi (event.Bodiless i j ∷ es) h = names_within a hi es h
names_within a hi (event.Statement i j ∷ es) h = names_within a hi es h
names_within a hi (event.Misplaced i j ∷ es) h = names_within a hi es h
names_within a hi (event.SecondDefault i ∷ es) h = names_within a hi es h

within_append : (z : ℕ) (xs ys : List Event) → Within z xs → Within z ys → Within z (xs ++ ys)
within_append z [] ys h k = k
within_append z (event.Use u ∷ xs) ys h k = (h.0, within_append z xs ys h.1 k)
within_append z (event.Declaration d ∷ xs) ys h k = (h.0, within_append z xs ys h.1 k)
within_append z (e ∷ xs) ys h k = within_append z xs ys h k

list_up : (a s : ℕ) (o : Option ℕ) → is_list (a + s) (moved_token a o) ≡ is_list s o
list_up a s None = refl
list_up a s (Some t) = eq_moved a s t

around_up : (a : ℕ) (b : Bool) (x : Site) → (if b then list_at (moved_site a x) else None) ≡ moved_token a (if b then list_at x else None)
around_up a false x = refl
around_up a true site.Elsewhere = refl
around_up a true (site.Type s) = refl
around_up a true (site.Value s column alone) = refl
around_up a true (site.Right s reach) = refl

used_up : (a s : ℕ) (u : Use) → is_list (a + s) (list_around (moved_use a u)) ≡ is_list s (list_around u)
used_up a s u = ap (is_list (a + s)) (around_up a u.constant u.site) ∙ list_up a s (list_around u)

by_up : (a : ℕ) (e : Entity) (o : Option ℕ) → list_by e (moved_token a o) ≡ moved_token a (list_by e o)
by_up a entity.Constant o = refl
by_up a e o = refl

of_up : (a : ℕ) (d : Declaration) → list_of (moved_declaration a d) ≡ moved_token a (list_of d)
of_up a d = by_up a d.entity d.source

declared_up : (a s : ℕ) (d : Declaration) → is_list (a + s) (list_of (moved_declaration a d)) ≡ is_list s (list_of d)
declared_up a s d = ap (is_list (a + s)) (of_up a d) ∙ list_up a s (list_of d)

local_up : (a : ℕ) (b : Block) → is_local (moved_block a b) ≡ is_local b
local_up a block.Package = refl
local_up a (block.Local i) = refl

repetition_up : (a : ℕ) (d : Declaration) → is_repetition (moved_declaration a d) ≡ is_repetition d
repetition_up a d =
    ap (λ b. b && nat_eq d.column 0 && not (is_list (a + d.statement) (moved_token a d.source))) (local_up a d.block)
    ∙ ap (λ b. is_local d.block && nat_eq d.column 0 && not b) (list_up a d.statement d.source)

module _ (n : ℕ) (l : TokenList) (a width : ℕ) (w : ℕ → List ℕ) (text : (x : ℕ) → x < width → w x ≡ word l (a + x)) where
  abbrev up : List Event → List Event
  up es = map (moved_event a) es

  abbrev here : List Event → List Event → List Place
  here b es = hidden_lists_by (word l) (bytes_at n l) b es

  abbrev itself : List Event → List Event → List Place
  itself b es = hidden_lists_by w (λ x. no_place) b es

  up_both : (xs ys : List Event) → up (xs ++ ys) ≡ up xs ++ up ys
  up_both [] ys = refl
  up_both (x ∷ xs) ys = ap (λ zs. moved_event a x ∷ zs) (up_both xs ys)

  uses_up : (s : ℕ) (v : List ℕ) (b : List Event) → Within width b → uses_name (a + s) v (word l) (up b) ≡ uses_name s v w b
  uses_up s v [] h = refl
  uses_up s v (event.Use u ∷ b) h =
      ap (λ x. (x && same_text v (word l (a + u.name))) || uses_name (a + s) v (word l) (up b)) (used_up a s u)
      ∙ ap (λ x. (is_list s (list_around u) && same_text v x) || uses_name (a + s) v (word l) (up b)) (sym (text u.name h.0))
      ∙ ap (λ x. (is_list s (list_around u) && same_text v (w u.name)) || x) (uses_up s v b h.1)
  uses_up s v (event.Declaration d ∷ b) h = uses_up s v b h.1
  uses_up s v (e ∷ b) h = uses_up s v b h

  hides_up : (s : ℕ) (all b : List Event) → Within width all → Within width b → hides_one (a + s) (word l) (up all) (up b) ≡ hides_one s w all b
  hides_up s all [] g h = refl
  hides_up s all (event.Declaration d ∷ b) g h =
      ap (λ x. (x && not (is_blank (word l (a + d.name))) && uses_name (a + s) (word l (a + d.name)) (word l) (up all)) || hides_one (a + s) (word l) (up all) (up b)) (declared_up a s d)
      ∙ ap (λ x. (is_list s (list_of d) && not (is_blank x) && uses_name (a + s) x (word l) (up all)) || hides_one (a + s) (word l) (up all) (up b)) (sym (text d.name h.0))
      ∙ ap (λ x. (is_list s (list_of d) && not (is_blank (w d.name)) && x) || hides_one (a + s) (word l) (up all) (up b)) (uses_up s (w d.name) all g)
      ∙ ap (λ x. (is_list s (list_of d) && not (is_blank (w d.name)) && uses_name s (w d.name) w all) || x) (hides_up s all b g h.1)
  hides_up s all (event.Use u ∷ b) g h = hides_up s all b g h.1
  hides_up s all (e ∷ b) g h = hides_up s all b g h

  hidden_up : (o : Option ℕ) (b : List Event) → Within width b → is_hidden (moved_token a o) (word l) (up b) ≡ is_hidden o w b
  hidden_up None b h = refl
  hidden_up (Some s) b h = hides_up s b b h h

  test_up : (d : Declaration) (b : List Event) → Within width b → (is_repetition (moved_declaration a d) && is_hidden (list_of (moved_declaration a d)) (word l) (up b)) ≡ (is_repetition d && is_hidden (list_of d) w b)
  test_up d b h =
      ap (λ x. x && is_hidden (list_of (moved_declaration a d)) (word l) (up b)) (repetition_up a d)
      ∙ ap (λ o. is_repetition d && is_hidden o (word l) (up b)) (of_up a d)
      ∙ ap (λ x. is_repetition d && x) (hidden_up (list_of d) b h)

  -- one event further
  next_up : (b : List Event) (e : Event) (es : List Event) → here (up b ++ moved_event a e ∷ []) (up es) ≡ here (up (b ++ e ∷ [])) (up es)
  next_up b e es = ap (λ c. here c (up es)) (sym (up_both b (e ∷ [])))

  lists_to : (b es : List Event) → Within width b → Within width es → here (up b) (up es) ≡ [] → itself b es ≡ []
  lists_to b [] h k e = refl
  lists_to b (event.Declaration d ∷ es) h k e =
      let x : Event = event.Declaration d in
      place_to (is_repetition (moved_declaration a d) && is_hidden (list_of (moved_declaration a d)) (word l) (up b)) (is_repetition d && is_hidden (list_of d) w b) (bytes_at n l (a + d.name)) no_place
      (here (up b ++ moved_event a x ∷ []) (up es)) (itself (b ++ x ∷ []) es) (test_up d b h)
      (λ r. lists_to (b ++ x ∷ []) es (within_append width b (x ∷ []) h (k.0, tt)) k.1 (sym (next_up b x es) ∙ r)) e
  lists_to b (event.Use u ∷ es) h k e = lists_to (b ++ event.Use u ∷ []) es (within_append width b (event.Use u ∷ []) h (k.0, tt)) k.1 (sym (next_up b (event.Use u) es) ∙ e)
  lists_to b (event.Member m g x ∷ es) h k e = lists_to (b ++ event.Member m g x ∷ []) es (within_append width b (event.Member m g x ∷ []) h tt) k (sym (next_up b (event.Member m g x) es) ∙ e)
  lists_to b (event.Import i ∷ es) h k e = lists_to (b ++ event.Import i ∷ []) es (within_append width b (event.Import i ∷ []) h tt) k (sym (next_up b (event.Import i) es) ∙ e)
  lists_to b (event.Bodiless i j ∷ es) h k e = lists_to (b ++ event.Bodiless i j ∷ []) es (within_append width b (event.Bodiless i j ∷ []) h tt) k (sym (next_up b (event.Bodiless i j) es) ∙ e)
  lists_to b (event.Statement i j ∷ es) h k e = lists_to (b ++ event.Statement i j ∷ []) es (within_append width b (event.Statement i j ∷ []) h tt) k (sym (next_up b (event.Statement i j) es) ∙ e)
  lists_to b (event.Misplaced i j ∷ es) h k e = lists_to (b ++ event.Misplaced i j ∷ []) es (within_append width b (event.Misplaced i j ∷ []) h tt) k (sym (next_up b (event.Misplaced i j) es) ∙ e)
  lists_to b (event.SecondDefault i ∷ es) h k e = lists_to (b ++ event.SecondDefault i ∷ []) es (within_append width b (event.SecondDefault i ∷ []) h tt) k (sym (next_up b (event.SecondDefault i) es) ∙ e)

  lists_from : (b es : List Event) → Within width b → Within width es → itself b es ≡ [] → here (up b) (up es) ≡ []
  lists_from b [] h k e = refl
  lists_from b (event.Declaration d ∷ es) h k e =
      let x : Event = event.Declaration d in
      place_to (is_repetition d && is_hidden (list_of d) w b) (is_repetition (moved_declaration a d) && is_hidden (list_of (moved_declaration a d)) (word l) (up b)) no_place (bytes_at n l (a + d.name))
      (itself (b ++ x ∷ []) es) (here (up b ++ moved_event a x ∷ []) (up es)) (sym (test_up d b h))
      (λ r. next_up b x es ∙ lists_from (b ++ x ∷ []) es (within_append width b (x ∷ []) h (k.0, tt)) k.1 r) e
  lists_from b (event.Use u ∷ es) h k e = next_up b (event.Use u) es ∙ lists_from (b ++ event.Use u ∷ []) es (within_append width b (event.Use u ∷ []) h (k.0, tt)) k.1 e
  lists_from b (event.Member m g x ∷ es) h k e = next_up b (event.Member m g x) es ∙ lists_from (b ++ event.Member m g x ∷ []) es (within_append width b (event.Member m g x ∷ []) h tt) k e
  lists_from b (event.Import i ∷ es) h k e = next_up b (event.Import i) es ∙ lists_from (b ++ event.Import i ∷ []) es (within_append width b (event.Import i ∷ []) h tt) k e
  lists_from b (event.Bodiless i j ∷ es) h k e = next_up b (event.Bodiless i j) es ∙ lists_from (b ++ event.Bodiless i j ∷ []) es (within_append width b (event.Bodiless i j ∷ []) h tt) k e
  lists_from b (event.Statement i j ∷ es) h k e = next_up b (event.Statement i j) es ∙ lists_from (b ++ event.Statement i j ∷ []) es (within_append width b (event.Statement i j ∷ []) h tt) k e
  lists_from b (event.Misplaced i j ∷ es) h k e = next_up b (event.Misplaced i j) es ∙ lists_from (b ++ event.Misplaced i j ∷ []) es (within_append width b (event.Misplaced i j ∷ []) h tt) k e
  lists_from b (event.SecondDefault i ∷ es) h k e = next_up b (event.SecondDefault i) es ∙ lists_from (b ++ event.SecondDefault i ∷ []) es (within_append width b (event.SecondDefault i ∷ []) h tt) k e

-- ---- files

-- No specification of the function repeats a list of which a constant hides a name, by itself.
abbrev pub RepeatsLists : ℕ → Function → Type 0
RepeatsLists n f = own_hidden_lists (function_alone f) ≡ []

abbrev lists_rule : BackRule
lists_rule n l b es = hidden_lists_by (word l) (bytes_at n l) b es

abbrev all_back : (n : ℕ) (l : TokenList) → LooksBack (lists_rule n l) ListsBefore ListsFrom
all_back n l = lists_back (word l) (bytes_at n l)

own_lists : (fs : List File) → IsOwnBack fs lists_rule ListsBefore ListsFrom all_back RepeatsLists
own_lists fs n f r there t laid stands =
    let a : ℕ = first t in
    let by_itself : Alone = alone f.tokens t in
    let es : List Event = function_events by_itself in
    let e : told_in f t ≡ map (moved_event a) es = heads.tell fs n f r there t stands in
    let names : NamesIn a (last t) (told_in f t) = ordered_names a a (last t) (told_in f t) (omega arith) (events_order (file_context (last f.tree)) t laid) in
    let k : Within (last t - a) es = names_within a (last t) es (subst (NamesIn a (last t)) e names) in
    record {
      to = λ x. lists_to n f.tokens a (last t - a) (own_text by_itself) (λ y lt. texts_at f.tokens a (last t - a) y lt) [] es tt k (ap (lists_rule n f.tokens []) (sym e) ∙ x);
      from = λ x. ap (lists_rule n f.tokens []) e ∙ lists_from n f.tokens a (last t - a) (own_text by_itself) (λ y lt. texts_at f.tokens a (last t - a) y lt) [] es tt k x;
    }

pub lists_by_functions : (fs : List File) → AreRead fs → AreNamed fs → Iff (hidden_lists (units_of fs) ≡ []) ((hidden_lists (outside_units fs) ≡ []) × EachOwn RepeatsLists 0 fs)
lists_by_functions fs h g = back_by_functions fs lists_rule ListsBefore ListsFrom all_back RepeatsLists (own_lists fs) h g
