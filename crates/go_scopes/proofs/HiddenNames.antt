-- The lists of some events and of one more behind them.
use Rattle.std.proofs.Common.{◌≡◌, ◌∙◌, ◌<◌, ◌+◌, ℕ, refl, sym, ap, subst, Bool, true, false, ◌&&◌, ◌||◌, not, nat_eq, Option, Some, None, List, [], ◌∷◌, ◌++◌, length, take, get_or, add-one, arith}
use Rattle.std.proofs.Math.Seq.{take-suc}
use Rattle.std.specs.Borrow.{Bor}
use Rattle.std.proofs.lemmas.Bool.Decides.{nat_tests}
use Rattle.go_tokens.specs.Spellings.{same_text}
use Rattle.go_tree.specs.declared.event.Declaration.{Declaration}
use Rattle.go_tree.specs.declared.event.Use.{Use}
use Rattle.go_tree.specs.declared.event.Event.{Event}
use Rattle.go_tree.specs.declared.event.Event.TheVariants as event
use Rattle.go_tree.specs.Constants.{is_list, list_of, list_around, uses_name, hides_one}
use Rattle.go_tree.specs.Units.{is_blank}
use Rattle.go_scopes.proofs.RepeatedLists.{uses_both, hides_both, hides_alike}
use Rattle.go_scopes.specs.declared.lists.Lists.{Lists}
use Rattle.go_scopes.specs.Lists.{names_one, has_used, has_declared, has_hidden, KnowsLists, AddsUse, AddsConstant}

-- ---- truth values

or-assoc : (a b c : Bool) → ((a || b) || c) ≡ (a || (b || c))
or-assoc true b c = refl
or-assoc false b c = refl

or-none : (b : Bool) → (b || false) ≡ b
or-none true = refl
or-none false = refl

or-swap : (a b : Bool) → (a || (b || false)) ≡ (b || a)
or-swap true true = refl
or-swap true false = refl
or-swap false true = refl
or-swap false false = refl

or-turn : (a b : Bool) → (a || b) ≡ (b || a)
or-turn true true = refl
or-turn true false = refl
or-turn false true = refl
or-turn false false = refl

-- One name more: `a` and `n` tell of the constant, `u` of the names so far, `l` and `s` of the one more, `h` and `d` of the
-- other constants.
one_name : (a n u l s h d : Bool) → ((a && n && (u || (l && s || false))) || (h || (l && d))) ≡ (((a && n && u) || h) || (l && ((a && n && s) || d)))
one_name false n u l s h d = refl
one_name true false u l s h d = refl
one_name true true true l s h d = refl
one_name true true false false s h d = refl
one_name true true false true s true d = by s
  where
    by : (s : Bool) → ((s || false) || true) ≡ true
    by true = refl
    by false = refl
one_name true true false true true false d = refl
one_name true true false true false false d = refl

same_swap : (a b : List ℕ) → same_text a b ≡ same_text b a
same_swap [] [] = refl
same_swap [] (y ∷ b) = refl
same_swap (x ∷ a) [] = refl
same_swap (x ∷ a) (y ∷ b) = let rest : same_text a b ≡ same_text b a = same_swap a b in grind (arith, rest)

-- ---- events one behind the other

module _ (s : ℕ) (text : ℕ → List ℕ) where
  pub names_both : (w : List ℕ) (xs ys : List Event) → names_one s w text (xs ++ ys) ≡ (names_one s w text xs || names_one s w text ys)
  names_both w [] ys = refl
  names_both w (event.Declaration d ∷ xs) ys =
      let here : Bool = is_list s (list_of d) && not (is_blank (text d.name)) && same_text w (text d.name) in
      ap (λ b. here || b) (names_both w xs ys) ∙ sym (or-assoc here (names_one s w text xs) (names_one s w text ys))
  names_both w (e ∷ xs) ys = names_both w xs ys

  -- one more name that is used
  hides_use : (all : List Event) (u : Use) (es : List Event) → hides_one s text (all ++ event.Use u ∷ []) es ≡ (hides_one s text all es || (is_list s (list_around u) && names_one s (text u.name) text es))
  hides_use all u [] = no_one (is_list s (list_around u))
    where
      no_one : (b : Bool) → false ≡ (b && false)
      no_one true = refl
      no_one false = refl
  hides_use all u (event.Declaration d ∷ es) =
      let a : Bool = is_list s (list_of d) in
      let n : Bool = not (is_blank (text d.name)) in
      let l : Bool = is_list s (list_around u) in
      let more : List Event = all ++ event.Use u ∷ [] in
      ap (λ b. (a && n && b) || hides_one s text more es) (uses_both s text (text d.name) all (event.Use u ∷ []))
      ∙ ap (λ b. (a && n && (uses_name s (text d.name) text all || (l && b || false))) || hides_one s text more es) (same_swap (text d.name) (text u.name))
      ∙ ap (λ b. (a && n && (uses_name s (text d.name) text all || (l && same_text (text u.name) (text d.name) || false))) || b) (hides_use all u es)
      ∙ one_name a n (uses_name s (text d.name) text all) l (same_text (text u.name) (text d.name)) (hides_one s text all es) (names_one s (text u.name) text es)
  hides_use all u (e ∷ es) = hides_use all u es

  -- an event that uses no name of the list and declares none of its constants
  module _ (e : Event) (uses : (w : List ℕ) → uses_name s w text (e ∷ []) ≡ false) (hides : (all : List Event) → hides_one s text all (e ∷ []) ≡ false) where
    pub uses_other : (w : List ℕ) (es : List Event) → uses_name s w text (es ++ e ∷ []) ≡ uses_name s w text es
    uses_other w es = uses_both s text w es (e ∷ []) ∙ ap (λ b. uses_name s w text es || b) (uses w) ∙ or-none (uses_name s w text es)

    pub hides_other : (es : List Event) → hides_one s text (es ++ e ∷ []) (es ++ e ∷ []) ≡ hides_one s text es es
    hides_other es =
        hides_both s text (es ++ e ∷ []) es (e ∷ [])
        ∙ ap (λ b. hides_one s text (es ++ e ∷ []) es || b) (hides (es ++ e ∷ []))
        ∙ or-none (hides_one s text (es ++ e ∷ []) es)
        ∙ hides_alike s text (es ++ e ∷ []) es es (λ w. uses_other w es)

-- ---- the lists of one event more

-- two numbers that are told to be one
at_one : (t s : ℕ) (f : ℕ → Bool) → (nat_eq t s && f s) ≡ (nat_eq t s && f t)
at_one t s f = grind (arith, nat_tests)

at_one_too : (t s : ℕ) (b : Bool) (f : ℕ → Bool) → (nat_eq t s && b && f s) ≡ (nat_eq t s && b && f t)
at_one_too t s b f = grind (arith, nat_tests)

at_list : (t s : ℕ) (o : Option ℕ) → o ≡ Some s → is_list t o ≡ nat_eq t s
at_list t s o e = ap (is_list t) e

module _ (old new : Lists) (text : ℕ → List ℕ) (es : List Event) (s : ℕ) (w : Bor (List ℕ)) (known : KnowsLists old text es) where
  pub knows_use : (u : Use) → list_around u ≡ Some s → w.now ≡ text u.name → AddsUse old new s w → KnowsLists new text (es ++ event.Use u ∷ [])
  knows_use u list name adds = record {
    used =
        λ t v.
        adds.used t v
        ∙ ap (λ b. (nat_eq t s && same_text v.now w.now) || b) (known.used t v)
        ∙ ap (λ x. (nat_eq t s && same_text v.now x) || uses_name t v.now text es) name
        ∙ ap (λ b. (b && same_text v.now (text u.name)) || uses_name t v.now text es) (sym (at_list t s (list_around u) list))
        ∙ sym (uses_both t text v.now es (event.Use u ∷ []) ∙ or-swap (uses_name t v.now text es) (is_list t (list_around u) && same_text v.now (text u.name)));
    declared =
        λ t v.
        adds.declared t v ∙ known.declared t v
        ∙ sym (names_both t text v.now es (event.Use u ∷ []) ∙ or-none (names_one t v.now text es));
    hidden =
        λ t.
        adds.hidden t
        ∙ ap (λ b. (nat_eq t s && b) || has_hidden old t) (known.declared s w)
        ∙ ap (λ b. b || has_hidden old t) (at_one t s (λ x. names_one x w.now text es))
        ∙ ap (λ b. (nat_eq t s && names_one t w.now text es) || b) (known.hidden t)
        ∙ ap (λ x. (nat_eq t s && names_one t x text es) || hides_one t text es es) name
        ∙ ap (λ b. (b && names_one t (text u.name) text es) || hides_one t text es es) (sym (at_list t s (list_around u) list))
        ∙ or-turn (is_list t (list_around u) && names_one t (text u.name) text es) (hides_one t text es es)
        ∙ sym (hides_use t text es u es)
        ∙ sym (hides_both t text (es ++ event.Use u ∷ []) es (event.Use u ∷ []) ∙ or-none (hides_one t text (es ++ event.Use u ∷ []) es));
  }

  pub knows_constant : (d : Declaration) → list_of d ≡ Some s → w.now ≡ text d.name → AddsConstant old new s w → KnowsLists new text (es ++ event.Declaration d ∷ [])
  knows_constant d list name adds =
      let more : List Event = es ++ event.Declaration d ∷ [] in
      let same_uses : (t : ℕ) (v : List ℕ) → uses_name t v text more ≡ uses_name t v text es = λ t v. uses_both t text v es (event.Declaration d ∷ []) ∙ or-none (uses_name t v text es) in
      let free : Bool = not (is_blank (text d.name)) in
      record {
        used = λ t v. adds.used t v ∙ known.used t v ∙ sym (same_uses t v.now);
        declared =
            λ t v.
            adds.declared t v
            ∙ ap (λ b. (nat_eq t s && not (is_blank w.now) && same_text v.now w.now) || b) (known.declared t v)
            ∙ ap (λ x. (nat_eq t s && not (is_blank x) && same_text v.now x) || names_one t v.now text es) name
            ∙ ap (λ b. (b && free && same_text v.now (text d.name)) || names_one t v.now text es) (sym (at_list t s (list_of d) list))
            ∙ sym (names_both t text v.now es (event.Declaration d ∷ []) ∙ or-swap (names_one t v.now text es) (is_list t (list_of d) && free && same_text v.now (text d.name)));
        hidden =
            λ t.
            adds.hidden t
            ∙ ap (λ b. (nat_eq t s && not (is_blank w.now) && b) || has_hidden old t) (known.used s w)
            ∙ ap (λ b. b || has_hidden old t) (at_one_too t s (not (is_blank w.now)) (λ x. uses_name x w.now text es))
            ∙ ap (λ b. (nat_eq t s && not (is_blank w.now) && uses_name t w.now text es) || b) (known.hidden t)
            ∙ ap (λ x. (nat_eq t s && not (is_blank x) && uses_name t x text es) || hides_one t text es es) name
            ∙ ap (λ b. (b && free && uses_name t (text d.name) text es) || hides_one t text es es) (sym (at_list t s (list_of d) list))
            ∙ ap (λ b. (is_list t (list_of d) && free && b) || hides_one t text es es) (sym (same_uses t (text d.name)))
            ∙ or-turn (is_list t (list_of d) && free && uses_name t (text d.name) text more) (hides_one t text es es)
            ∙ sym (hides_both t text more es (event.Declaration d ∷ []) ∙ ap (λ b. b || (is_list t (list_of d) && free && uses_name t (text d.name) text more || false)) (hides_alike t text more es es (same_uses t)) ∙ ap (λ b. hides_one t text es es || b) (or-none (is_list t (list_of d) && free && uses_name t (text d.name) text more)));
      }

-- an event that tells of no list
pub knows_other : (ls : Lists) (text : ℕ → List ℕ) (es : List Event) (e : Event)
    → ((t : ℕ) (w : List ℕ) → uses_name t w text (e ∷ []) ≡ false) → ((t : ℕ) (w : List ℕ) → names_one t w text (e ∷ []) ≡ false) → ((t : ℕ) (all : List Event) → hides_one t text all (e ∷ []) ≡ false)
    → KnowsLists ls text es → KnowsLists ls text (es ++ e ∷ [])
knows_other ls text es e uses names hides known = record {
  used = λ t v. known.used t v ∙ sym (uses_other t text e (uses t) (hides t) v.now es);
  declared = λ t v. known.declared t v ∙ sym (names_both t text v.now es (e ∷ []) ∙ ap (λ b. names_one t v.now text es || b) (names t v.now) ∙ or-none (names_one t v.now text es));
  hidden = λ t. known.hidden t ∙ sym (hides_other t text e (uses t) (hides t) es);
}

-- neither a name that is looked up nor a declaration
pub knows_apart : (ls : Lists) (text : ℕ → List ℕ) (es : List Event) (e : Event)
    → ((u : Use) → e ≡ event.Use u → ⊥) → ((d : Declaration) → e ≡ event.Declaration d → ⊥) → KnowsLists ls text es → KnowsLists ls text (es ++ e ∷ [])
knows_apart ls text es (event.Use u) a b known = absurd (a u refl)
knows_apart ls text es (event.Declaration d) a b known = absurd (b d refl)
knows_apart ls text es (event.Import i) a b known = knows_other ls text es (event.Import i) (λ t w. refl) (λ t w. refl) (λ t all. refl) known
knows_apart ls text es (event.Member m g i) a b known = knows_other ls text es (event.Member m g i) (λ t w. refl) (λ t w. refl) (λ t all. refl) known
knows_apart ls text es (event.Bodiless i j) a b known = knows_other ls text es (event.Bodiless i j) (λ t w. refl) (λ t w. refl) (λ t all. refl) known
knows_apart ls text es (event.Statement i j) a b known = knows_other ls text es (event.Statement i j) (λ t w. refl) (λ t w. refl) (λ t all. refl) known
knows_apart ls text es (event.Misplaced i j) a b known = knows_other ls text es (event.Misplaced i j) (λ t w. refl) (λ t w. refl) (λ t all. refl) known
knows_apart ls text es (event.SecondDefault i) a b known = knows_other ls text es (event.SecondDefault i) (λ t w. refl) (λ t w. refl) (λ t all. refl) known

-- a name that is looked up in no list
pub knows_lookup : (ls : Lists) (text : ℕ → List ℕ) (es : List Event) (u : Use) → list_around u ≡ None → KnowsLists ls text es → KnowsLists ls text (es ++ event.Use u ∷ [])
knows_lookup ls text es u none known =
    knows_other ls text es (event.Use u) (λ t w. ap (λ o. (is_list t o && same_text w (text u.name)) || false) none) (λ t w. refl) (λ t all. refl) known

-- a declaration of no constant that has a list
pub knows_declaration : (ls : Lists) (text : ℕ → List ℕ) (es : List Event) (d : Declaration) → list_of d ≡ None → KnowsLists ls text es → KnowsLists ls text (es ++ event.Declaration d ∷ [])
knows_declaration ls text es d none known =
    knows_other ls text es (event.Declaration d) (λ t w. refl) (λ t w. ap (λ o. (is_list t o && not (is_blank (text d.name)) && same_text w (text d.name)) || false) none)
    (λ t all. ap (λ o. (is_list t o && not (is_blank (text d.name)) && uses_name t (text d.name) text all) || false) none)
    known

-- the events up to one more, which are read from a copy of their list
pub knows_more : (ls : Lists) (text : ℕ → List ℕ) (i : ℕ) (es read : List Event) (d : Event) → read ≡ es → i < length read → KnowsLists ls text (take i es ++ get_or read i d ∷ []) → KnowsLists ls text (take (i + 1) es)
knows_more ls text i es read d same inside known =
    subst (λ k. KnowsLists ls text (take k es)) (sym (add-one i))
    (subst (KnowsLists ls text) (sym (take-suc es i d (subst (λ l. i < length l) same inside)))
    (subst (λ l. KnowsLists ls text (take i es ++ get_or l i d ∷ [])) same known))
