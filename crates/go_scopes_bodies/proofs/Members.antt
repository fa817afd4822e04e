-- That no field, key or parameter stands twice in its group: function by function.
use Rattle.std.proofs.Common.{◌≡◌, ◌∙◌, ℕ, ◌+◌, ◌-◌, ◌<◌, ◌≤◌, Bool, false, List, [], ◌∷◌, ◌++◌, map, refl, sym, ap, subst, append_assoc, arith}
use Rattle.std.specs.Prelude.{◌&&◌, ◌||◌, not, nat_eq}
use Rattle.std.proofs.lemmas.Bool.Decides.{nat_tests}
use Rattle.go_tokens.specs.Spellings.{same_text}
use Rattle.go_tokens.specs.Tokens.{TokenList}
use Rattle.go_grammar.specs.Trees.{first, last}
use Rattle.go_tree.specs.declared.event.Event.{Event}
use Rattle.go_tree.specs.declared.event.Event.TheVariants as event
use Rattle.go_tree.specs.declared.event.Member.{Member}
use Rattle.go_tree.specs.declared.event.Member.TheVariants as member
use Rattle.go_tree.specs.Contexts.{file_context}
use Rattle.go_tree.specs.Duplicates.{same_member, has_member, is_duplicate, member_place, second_members}
use Rattle.go_tree.specs.Failures.{place_if, of_files}
use Rattle.go_tree.specs.Units.{Place, word, is_blank, bytes_at}
use Rattle.go_scopes_events.specs.Moved.{moved_event}
use Rattle.go_heads.specs.Bodies.{function_events}
use Rattle.go_heads.specs.Functions.{Function, AreRead, Alone, alone, function_alone}
use Rattle.go_heads.specs.Heads.{File}
use Rattle.go_heads.specs.Locals.{AreNamed}
use Rattle.go_heads.specs.Names.{own_text, no_place}
use Rattle.go_heads.specs.Objects.{units_of}
use Rattle.go_heads.proofs.Public.{eq_moved, texts_at}
use Rattle.go_heads.proofs.Public as heads
use Rattle.go_scopes_bodies.specs.Faults.{own_has_member, own_is_duplicate, second_members_by, own_second_members}
use Rattle.go_scopes_bodies.specs.Outside.{outside_units}
use Rattle.go_scopes_bodies.proofs.Apart.{LooksBack, BackRule, IsOwnBack, back_by_functions}
use Rattle.go_scopes_bodies.proofs.Each.{Iff, EachOwn}
use Rattle.go_scopes_bodies.proofs.Lists.{place_both, place_to, or_assoc, second_false}
use Rattle.go_scopes_bodies.proofs.Lying.{AllLie, tree_lies}
use Rattle.go_scopes_bodies.proofs.Rules.{told_in}

-- ---- events one behind the other

has_both : (m : Member) (g : ℕ) (w : List ℕ) (l : TokenList) (xs ys : List Event) → has_member m g w l (xs ++ ys) ≡ (has_member m g w l xs || has_member m g w l ys)
has_both m g w l [] ys = refl
has_both m g w l (event.Member o h x ∷ xs) ys =
    let here : Bool = same_member m o && nat_eq g h && same_text w (word l x) in
    ap (λ b. here || b) (has_both m g w l xs ys) ∙ or_assoc here (has_member m g w l xs) (has_member m g w l ys)
has_both m g w l (e ∷ xs) ys = has_both m g w l xs ys

-- the groups of members begin in front of a token, or from one on
abbrev GroupsBefore : ℕ → List Event → Type 0
GroupsBefore z [] = Unit {0}
GroupsBefore z (event.Member m g x ∷ es) = (g < z) × GroupsBefore z es
GroupsBefore z (e ∷ es) = GroupsBefore z es

abbrev GroupsFrom : ℕ → List Event → Type 0
GroupsFrom z [] = Unit {0}
GroupsFrom z (event.Member m g x ∷ es) = (z ≤ g) × GroupsFrom z es
GroupsFrom z (e ∷ es) = GroupsFrom z es

before_append : (z : ℕ) (xs ys : List Event) → GroupsBefore z xs → GroupsBefore z ys → GroupsBefore z (xs ++ ys)
before_append z [] ys h k = k
before_append z (event.Member m g x ∷ xs) ys h k = (h.0, before_append z xs ys h.1 k)
before_append z (e ∷ xs) ys h k = before_append z xs ys h k

before_later : (y z : ℕ) (xs : List Event) → y ≤ z → GroupsBefore y xs → GroupsBefore z xs
before_later y z [] le h = tt
before_later y z (event.Member m g x ∷ xs) le h = (omega (arith, le, h.0), before_later y z xs le h.1)
before_later y z (e ∷ xs) le h = before_later y z xs le h

lie_before : (lo hi : ℕ) (es : List Event) → AllLie lo hi es → GroupsBefore hi es
lie_before lo hi [] h = tt
lie_before lo hi (event.Member m g x ∷ es) h = (omega (arith, h.0.1, h.0.2), lie_before lo hi es h.1)
lie_before lo hi (event.Use u ∷ es) h = lie_before lo hi es h.1
lie_before lo hi (event.Declaration d ∷ es) h = lie_before lo hi es h.1
lie_before lo hi (event.Import i ∷ es) h = lie_before lo hi es h.1
lie_before lo hi (event.Bodiless i j ∷ es) h = lie_before lo hi es h.1
lie_before lo hi (event.Statement i j ∷ es) h = lie_before lo hi es h.1
lie_before lo hi (event.Misplaced i j ∷ es) h = lie_before lo hi es h.1
lie_before lo hi (event.SecondDefault i ∷ es) h = lie_before lo hi es h.1

lie_from : (z lo hi : ℕ) (es : List Event) → z ≤ lo → AllLie lo hi es → GroupsFrom z es
lie_from z lo hi [] le h = tt
lie_from z lo hi (event.Member m g x ∷ es) le h = (omega (arith, le, h.0.0), lie_from z lo hi es le h.1)
lie_from z lo hi (event.Use u ∷ es) le h = lie_from z lo hi es le h.1
lie_from z lo hi (event.Declaration d ∷ es) le h = lie_from z lo hi es le h.1
lie_from z lo hi (event.Import i ∷ es) le h = lie_from z lo hi es le h.1
lie_from z lo hi (event.Bodiless i j ∷ es) le h = lie_from z lo hi es le h.1
lie_from z lo hi (event.Statement i j ∷ es) le h = lie_from z lo hi es le h.1
lie_from z lo hi (event.Misplaced i j ∷ es) le h = lie_from z lo hi es le h.1
lie_from z lo hi (event.SecondDefault i ∷ es) le h = lie_from z lo hi es le h.1

unlike : (x y : ℕ) → y < x → nat_eq x y ≡ false
unlike x y lt = grind (arith, nat_tests)

none_before : (z : ℕ) (m : Member) (g : ℕ) (w : List ℕ) (l : TokenList) (xs : List Event) → z ≤ g → GroupsBefore z xs → has_member m g w l xs ≡ false
none_before z m g w l [] le h = refl
none_before z m g w l (event.Member o k x ∷ xs) le h =
    let apart : nat_eq g k ≡ false = let lt : k < z = h.0 in unlike g k (omega (arith, lt, le)) in
    ap (λ b. b || has_member m g w l xs) (second_false (same_member m o) (nat_eq g k) (same_text w (word l x)) apart) ∙ none_before z m g w l xs le h.1
none_before z m g w l (e ∷ xs) le h = none_before z m g w l xs le h

-- what stands in front in other groups doesn't matter
has_same : (z : ℕ) (m : Member) (g : ℕ) (w : List ℕ) (l : TokenList) (xs ys : List Event) → z ≤ g → GroupsBefore z xs → has_member m g w l (xs ++ ys) ≡ has_member m g w l ys
has_same z m g w l xs ys le h = has_both m g w l xs ys ∙ ap (λ b. b || has_member m g w l ys) (none_before z m g w l xs le h)

duplicate_same : (z : ℕ) (m : Member) (g : ℕ) (w : List ℕ) (l : TokenList) (xs ys : List Event) → z ≤ g → GroupsBefore z xs → is_duplicate m g w l (xs ++ ys) ≡ is_duplicate m g w l ys
duplicate_same z member.Field g w l xs ys le h = ap (λ b. is_blank w || b) (has_same z member.Field g w l xs ys le h)
duplicate_same z member.Key g w l xs ys le h = has_same z member.Key g w l xs ys le h
duplicate_same z member.Parameter g w l xs ys le h = ap (λ b. not (is_blank w) && b) (has_same z member.Parameter g w l xs ys le h)

module _ (n : ℕ) (l : TokenList) where
  members_same : (z : ℕ) (xs ys es : List Event) → GroupsBefore z xs → GroupsFrom z es → second_members (xs ++ ys) n l es ≡ second_members ys n l es
  members_same z xs ys [] h k = refl
  members_same z xs ys (event.Member m g x ∷ es) h k =
      ap (λ b. place_if b (bytes_at n l x) (second_members ((xs ++ ys) ++ event.Member m g x ∷ []) n l es)) (duplicate_same z m g (word l x) l xs ys k.0 h)
      ∙ ap (λ b. place_if (is_duplicate m g (word l x) l ys) (bytes_at n l x) (second_members b n l es)) (append_assoc xs ys (event.Member m g x ∷ []))
      ∙ ap (place_if (is_duplicate m g (word l x) l ys) (bytes_at n l x)) (members_same z xs (ys ++ event.Member m g x ∷ []) es h k.1)
  members_same z xs ys (event.Use u ∷ es) h k = ap (λ b. second_members b n l es) (append_assoc xs ys (event.Use u ∷ [])) ∙ members_same z xs (ys ++ event.Use u ∷ []) es h k
  members_same z xs ys (event.Declaration d ∷ es) h k = ap (λ b. second_members b n l es) (append_assoc xs ys (event.Declaration d ∷ [])) ∙ members_same z xs (ys ++ event.Declaration d ∷ []) es h k
  members_same z xs ys (event.Import i ∷ es) h k = ap (λ b. second_members b n l es) (append_assoc xs ys (event.Import i ∷ [])) ∙ members_same z xs (ys ++ event.Import i ∷ []) es h k
  members_same z xs ys (event.Bodiless i j ∷ es) h k = ap (λ b. second_members b n l es) (append_assoc xs ys (event.Bodiless i j ∷ [])) ∙ members_same z xs (ys ++ event.Bodiless i j ∷ []) es h k
  members_same z xs ys (event.Statement i j ∷ es) h k = ap (λ b. second_members b n l es) (append_assoc xs ys (event.Statement i j ∷ [])) ∙ members_same z xs (ys ++ event.Statement i j ∷ []) es h k
  members_same z xs ys (event.Misplaced i j ∷ es) h k = ap (λ b. second_members b n l es) (append_assoc xs ys (event.Misplaced i j ∷ [])) ∙ members_same z xs (ys ++ event.Misplaced i j ∷ []) es h k
  members_same z xs ys (event.SecondDefault i ∷ es) h k = ap (λ b. second_members b n l es) (append_assoc xs ys (event.SecondDefault i ∷ [])) ∙ members_same z xs (ys ++ event.SecondDefault i ∷ []) es h k

  nothing_behind : (xs : List Event) → xs ++ [] ≡ xs
  nothing_behind [] = refl
  nothing_behind (x ∷ xs) = ap (λ ys. x ∷ ys) (nothing_behind xs)

  alone_same : (z : ℕ) (xs es : List Event) → GroupsBefore z xs → GroupsFrom z es → second_members xs n l es ≡ second_members [] n l es
  alone_same z xs es h k = ap (λ b. second_members b n l es) (sym (nothing_behind xs)) ∙ members_same z xs [] es h k

  members_both : (b xs ys : List Event) → second_members b n l (xs ++ ys) ≡ second_members b n l xs ++ second_members (b ++ xs) n l ys
  members_both b [] ys = ap (λ c. second_members c n l ys) (sym (nothing_behind b))
  members_both b (e ∷ xs) ys =
      ap (member_place b n l e) (members_both (b ++ e ∷ []) xs ys ∙ ap (λ c. second_members (b ++ e ∷ []) n l xs ++ second_members c n l ys) (append_assoc b (e ∷ []) xs))
      ∙ by e (second_members (b ++ e ∷ []) n l xs) (second_members (b ++ e ∷ xs) n l ys)
    where
      by : (e : Event) (ps qs : List Place) → member_place b n l e (ps ++ qs) ≡ member_place b n l e ps ++ qs
      by (event.Member m g x) ps qs = place_both (is_duplicate m g (word l x) l b) (bytes_at n l x) ps qs
      by (event.Use u) ps qs = refl
      by (event.Declaration d) ps qs = refl
      by (event.Import i) ps qs = refl
      by (event.Bodiless i j) ps qs = refl
      by (event.Statement i j) ps qs = refl
      by (event.Misplaced i j) ps qs = refl
      by (event.SecondDefault i) ps qs = refl

members_back : (n : ℕ) (l : TokenList) → LooksBack (λ b es. second_members b n l es) GroupsBefore GroupsFrom
members_back n l = record {
  none = λ z. tt;
  append = before_append;
  later = before_later;
  lie_before = lie_before;
  lie_from = lie_from;
  nothing = λ b. refl;
  both = members_both n l;
  alone = alone_same n l;
}

-- ---- a function by itself

-- the names of members stand before a token
abbrev MembersIn : ℕ → List Event → Type 0
MembersIn z [] = Unit {0}
MembersIn z (event.Member m g x ∷ es) = (x < z) × MembersIn z es
MembersIn z (e ∷ es) = MembersIn z es

members_in : (a hi : ℕ) (es : List Event) → AllLie a hi (map (moved_event a) es) → MembersIn (hi - a) es
members_in a hi [] h = tt
members_in a hi (event.Member m g x ∷ es) h = (omega (arith, h.0.2), members_in a hi es h.1)
members_in a hi (event.Use u ∷ es) h = members_in a hi es h.1
members_in a hi (event.Declaration d ∷ es) h = members_in a hi es h.1
members_in a hi (event.Import i ∷ es) h = members_in a hi es h.1
members_in a hi (event.Bodiless i j ∷ es) h = members_in a hi es h.1
members_in a hi (event.Statement i j ∷ es) h = members_in a hi es h.1
members_in a hi (event.Misplaced i j ∷ es) h = members_in a hi es h.1
members_in a hi (event.SecondDefault i ∷ es) h = members_in a hi es h.1

members_append : (z : ℕ) (xs ys : List Event) → MembersIn z xs → MembersIn z ys → MembersIn z (xs ++ ys)
members_append z [] ys h k = k
members_append z (event.Member m g x ∷ xs) ys h k = (h.0, members_append z xs ys h.1 k)
members_append z (e ∷ xs) ys h k = members_append z xs ys h k

module _ (n : ℕ) (l : TokenList) (a width : ℕ) (w : ℕ → List ℕ) (text : (x : ℕ) → x < width → w x ≡ word l (a + x)) where
  abbrev up : List Event → List Event
  up es = map (moved_event a) es

  up_both : (xs ys : List Event) → up (xs ++ ys) ≡ up xs ++ up ys
  up_both [] ys = refl
  up_both (x ∷ xs) ys = ap (λ zs. moved_event a x ∷ zs) (up_both xs ys)

  has_up : (m : Member) (g : ℕ) (v : List ℕ) (b : List Event) → MembersIn width b → has_member m (a + g) v l (up b) ≡ own_has_member w m g v b
  has_up m g v [] h = refl
  has_up m g v (event.Member o k x ∷ b) h =
      ap (λ z. (same_member m o && z && same_text v (word l (a + x))) || has_member m (a + g) v l (up b)) (eq_moved a g k)
      ∙ ap (λ z. (same_member m o && nat_eq g k && same_text v z) || has_member m (a + g) v l (up b)) (sym (text x h.0))
      ∙ ap (λ z. (same_member m o && nat_eq g k && same_text v (w x)) || z) (has_up m g v b h.1)
  has_up m g v (e ∷ b) h = has_up m g v b h

  duplicate_up : (m : Member) (g : ℕ) (v : List ℕ) (b : List Event) → MembersIn width b → is_duplicate m (a + g) v l (up b) ≡ own_is_duplicate w m g v b
  duplicate_up member.Field g v b h = ap (λ z. is_blank v || z) (has_up member.Field g v b h)
  duplicate_up member.Key g v b h = has_up member.Key g v b h
  duplicate_up member.Parameter g v b h = ap (λ z. not (is_blank v) && z) (has_up member.Parameter g v b h)

  test_up : (m : Member) (g x : ℕ) (b : List Event) → x < width → MembersIn width b → is_duplicate m (a + g) (word l (a + x)) l (up b) ≡ own_is_duplicate w m g (w x) b
  test_up m g x b lt h = ap (λ v. is_duplicate m (a + g) v l (up b)) (sym (text x lt)) ∙ duplicate_up m g (w x) b h

  -- one event further
  next_up : (b : List Event) (e : Event) (es : List Event) → second_members (up b ++ moved_event a e ∷ []) n l (up es) ≡ second_members (up (b ++ e ∷ [])) n l (up es)
  next_up b e es = ap (λ c. second_members c n l (up es)) (sym (up_both b (e ∷ [])))

  members_to : (b es : List Event) → MembersIn width b → MembersIn width es → second_members (up b) n l (up es) ≡ [] → second_members_by w b es ≡ []
  members_to b [] h k e = refl
  members_to b (event.Member m g x ∷ es) h k e =
      place_to (is_duplicate m (a + g) (word l (a + x)) l (up b)) (own_is_duplicate w m g (w x) b) (bytes_at n l (a + x)) no_place
      (second_members (up b ++ event.Member m (a + g) (a + x) ∷ []) n l (up es)) (second_members_by w (b ++ event.Member m g x ∷ []) es) (test_up m g x b k.0 h)
      (λ r. members_to (b ++ event.Member m g x ∷ []) es (members_append width b (event.Member m g x ∷ []) h (k.0, tt)) k.1 (sym (next_up b (event.Member m g x) es) ∙ r)) e
  members_to b (event.Use u ∷ es) h k e = members_to (b ++ event.Use u ∷ []) es (members_append width b (event.Use u ∷ []) h tt) k (sym (next_up b (event.Use u) es) ∙ e)
  members_to b (event.Declaration d ∷ es) h k e = members_to (b ++ event.Declaration d ∷ []) es (members_append width b (event.Declaration d ∷ []) h tt) k (sym (next_up b (event.Declaration d) es) ∙ e)
  members_to b (event.Import i ∷ es) h k e = members_to (b ++ event.Import i ∷ []) es (members_append width b (event.Import i ∷ []) h tt) k (sym (next_up b (event.Import i) es) ∙ e)
  members_to b (event.Bodiless i j ∷ es) h k e = members_to (b ++ event.Bodiless i j ∷ []) es (members_append width b (event.Bodiless i j ∷ []) h tt) k (sym (next_up b (event.Bodiless i j) es) ∙ e)
  members_to b (event.Statement i j ∷ es) h k e = members_to (b ++ event.Statement i j ∷ []) es (members_append width b (event.Statement i j ∷ []) h tt) k (sym (next_up b (event.Statement i j) es) ∙ e)
  members_to b (event.Misplaced i j ∷ es) h k e = members_to (b ++ event.Misplaced i j ∷ []) es (members_append width b (event.Misplaced i j ∷ []) h tt) k (sym (next_up b (event.Misplaced i j) es) ∙ e)
  members_to b (event.SecondDefault i ∷ es) h k e = members_to (b ++ event.SecondDefault i ∷ []) es (members_append width b (event.SecondDefault i ∷ []) h tt) k (sym (next_up b (event.SecondDefault i) es) ∙ e)

  members_from : (b es : List Event) → MembersIn width b → MembersIn width es → second_members_by w b es ≡ [] → second_members (up b) n l (up es) ≡ []
  members_from b [] h k e = refl
  members_from b (event.Member m g x ∷ es) h k e =
      place_to (own_is_duplicate w m g (w x) b) (is_duplicate m (a + g) (word l (a + x)) l (up b)) no_place (bytes_at n l (a + x))
      (second_members_by w (b ++ event.Member m g x ∷ []) es) (second_members (up b ++ event.Member m (a + g) (a + x) ∷ []) n l (up es)) (sym (test_up m g x b k.0 h))
      (λ r. next_up b (event.Member m g x) es ∙ members_from (b ++ event.Member m g x ∷ []) es (members_append width b (event.Member m g x ∷ []) h (k.0, tt)) k.1 r) e
  members_from b (event.Use u ∷ es) h k e = next_up b (event.Use u) es ∙ members_from (b ++ event.Use u ∷ []) es (members_append width b (event.Use u ∷ []) h tt) k e
  members_from b (event.Declaration d ∷ es) h k e = next_up b (event.Declaration d) es ∙ members_from (b ++ event.Declaration d ∷ []) es (members_append width b (event.Declaration d ∷ []) h tt) k e
  members_from b (event.Import i ∷ es) h k e = next_up b (event.Import i) es ∙ members_from (b ++ event.Import i ∷ []) es (members_append width b (event.Import i ∷ []) h tt) k e
  members_from b (event.Bodiless i j ∷ es) h k e = next_up b (event.Bodiless i j) es ∙ members_from (b ++ event.Bodiless i j ∷ []) es (members_append width b (event.Bodiless i j ∷ []) h tt) k e
  members_from b (event.Statement i j ∷ es) h k e = next_up b (event.Statement i j) es ∙ members_from (b ++ event.Statement i j ∷ []) es (members_append width b (event.Statement i j ∷ []) h tt) k e
  members_from b (event.Misplaced i j ∷ es) h k e = next_up b (event.Misplaced i j) es ∙ members_from (b ++ event.Misplaced i j ∷ []) es (members_append width b (event.Misplaced i j ∷ []) h tt) k e
  members_from b (event.SecondDefault i ∷ es) h k e = next_up b (event.SecondDefault i) es ∙ members_from (b ++ event.SecondDefault i ∷ []) es (members_append width b (event.SecondDefault i ∷ []) h tt) k e

-- ---- files

-- No member of a group in the function stands twice, by itself.
abbrev pub HasMembersOnce : ℕ → Function → Type 0
HasMembersOnce n f = own_second_members (function_alone f) ≡ []

abbrev members_rule : BackRule
members_rule n l b es = second_members b n l es

own_members : (fs : List File) → IsOwnBack fs members_rule GroupsBefore GroupsFrom members_back HasMembersOnce
own_members fs n f r there t laid stands =
    let a : ℕ = first t in
    let by_itself : Alone = alone f.tokens t in
    let es : List Event = function_events by_itself in
    let e : told_in f t ≡ map (moved_event a) es = heads.tell fs n f r there t stands in
    let lie : AllLie a (last t) (told_in f t) = tree_lies a (last t) (file_context (last f.tree)) t laid (omega arith) (omega arith) tt tt tt (tt, tt, tt) in
    let k : MembersIn (last t - a) es = members_in a (last t) es (subst (AllLie a (last t)) e lie) in
    record {
      to = λ x. members_to n f.tokens a (last t - a) (own_text by_itself) (λ y lt. texts_at f.tokens a (last t - a) y lt) [] es tt k (ap (second_members [] n f.tokens) (sym e) ∙ x);
      from = λ x. ap (second_members [] n f.tokens) e ∙ members_from n f.tokens a (last t - a) (own_text by_itself) (λ y lt. texts_at f.tokens a (last t - a) y lt) [] es tt k x;
    }

pub members_by_functions : (fs : List File) → AreRead fs → AreNamed fs
    → Iff (of_files (second_members []) 0 (units_of fs) ≡ []) ((of_files (second_members []) 0 (outside_units fs) ≡ []) × EachOwn HasMembersOnce 0 fs)
members_by_functions fs h g = back_by_functions fs members_rule GroupsBefore GroupsFrom members_back HasMembersOnce (own_members fs) h g
