-- What is declared at one place of the heads needs the same.
use Rattle.std.proofs.Common.{◌≡◌, ◌∙◌, ℕ, zero, suc, ◌+◌, ◌<◌, Bool, true, false, List, [], ◌∷◌, map, length, Option, Some, None, refl, sym, ap, subst, arith}
use Rattle.std.specs.Prelude.{nat_eq, slice_get, option_map}
use Rattle.std.proofs.lemmas.Bool.Decides.{nat_tests}
use Rattle.std.proofs.lemmas.Option.{slice_get-map}
use Rattle.go_tokens.specs.Tokens.{kinds}
use Rattle.go_grammar.specs.Trees.{last, parts}
use Rattle.go_tree.specs.declared.context.Site.{Site}
use Rattle.go_tree.specs.declared.context.Site.TheVariants as site
use Rattle.go_tree.specs.Declarations.{Found, found_in, found_from, found}
use Rattle.go_tree.specs.Lookups.{Asked, asked_from}
use Rattle.go_tree.specs.Meanings.{meanings}
use Rattle.go_tree.specs.Needs.{Needed, if_so, way_by, needed_meaning, needs, with_all, all_needed}
use Rattle.go_tree.specs.Units as names
use Rattle.go_tree.specs.Uses.{UsesView, uses}
use Rattle.go_heads.specs.Functions.{AreRead}
use Rattle.go_heads.specs.Heads.{File, IsRead, Head, head_of, heads, in_bodies, place_outside}
use Rattle.go_heads.proofs.Public.{first_same, others_same, some_not_none, stand_from, Other, other_found, read_at}
use Rattle.go_package_defs.specs.Sources.{Source, Package, package_of, unit_of, rounds, needed_numbers, needed_by, declared_at, needed_from, needed_at}
use Rattle.go_heads_types.specs.Portions.{files_of, AreNamed}
use Rattle.go_heads.specs.Objects.{units_of, file_in, file_there, KeepsObjects}
use Rattle.go_heads.specs.Told.{NewName, told_outside, file_events}
use Rattle.go_heads.proofs.Public as fresh
use Rattle.go_heads.specs.Lookups.{AtOnePlace}
use Rattle.go_heads.specs.Meanings.{KeepsMeanings}
use Rattle.go_heads_types.specs.Needs.{KeepsNeeds}
use Rattle.go_heads_types.proofs.Sited.{file_agreed}
use Rattle.go_heads_types.proofs.Looked.{find_new, ToldAs, declared_told, declared_in_file, none_other}
use Rattle.go_heads_types.proofs.Same.{SameSource, SameNeeds, SameSeeking}
use Rattle.go_heads_types.proofs.Meant.{AreOrderlyRead, OrderRead, ordered, placed_source, called_same}
use Rattle.go_heads_types.proofs.Telling.{all_needs}
use Rattle.go_heads_types.proofs.Closure.{all_with, all_same, numbers_same}

pub units_same : (ws : List (List ℕ)) (ss : List Source) → AreNamed ws ss → units_of (files_of ws ss) ≡ map unit_of ss
units_same [] [] e = refl
units_same [] (s ∷ ss) e = absurd (omega (arith, e))
units_same (w ∷ ws) [] e = absurd (omega (arith, e))
units_same (w ∷ ws) (s ∷ ss) e = ap (λ us. unit_of s ∷ us) (units_same ws ss (omega (arith, e)))

-- ---- what no specification has needs nothing

no_way : (o : Option ℕ) (own : ℕ) (f : Bool) (s : Site) → o ≡ None → way_by o own f s ≡ None
no_way o own f site.Elsewhere e = refl
no_way o own f (site.Type s) e = ap (λ z. way_by z own f (site.Type s)) e
no_way o own f (site.Value s column alone) e = ap (λ z. way_by z own f (site.Value s column alone)) e
no_way o own f (site.Right s r) e = ap (λ z. way_by z own f (site.Right s r)) e

either_none : (b : Bool) → if_so b None ≡ None
either_none true = refl
either_none false = refl

needs_none : (asks : List Asked) (x : Needed) → x.it.it.source ≡ None → needs asks x ≡ []
needs_none [] x e = refl
needs_none (a ∷ asks) x e =
    ap (λ w. needed_meaning (if_so (nat_eq a.file x.it.file) w) a.meaning (needs asks x)) (no_way x.it.it.source x.it.it.column x.full a.it.site e)
    ∙ ap (λ w. needed_meaning w a.meaning (needs asks x)) (either_none (nat_eq a.file x.it.file))
    ∙ needs_none asks x e

nothing_needed : (asks : List Asked) (k : ℕ) → all_needed asks k [] ≡ []
nothing_needed asks zero = refl
nothing_needed asks (suc k) = nothing_needed asks k

-- ---- files

pub told_at : ((a b : File) → IsRead a → IsRead b → head_of a ≡ head_of b → told_outside b ≡ told_outside a) → (old new : List File) → AreRead old → AreRead new → heads old ≡ heads new
    → (n : ℕ) → told_outside (file_in new n) ≡ told_outside (file_in old n)
told_at f [] [] h k e n = refl
told_at f [] (b ∷ bs) h k e n = absurd (some_not_none (head_of b) (heads bs) (sym e))
told_at f (a ∷ xs) [] h k e n = absurd (some_not_none (head_of a) (heads xs) e)
told_at f (a ∷ xs) (b ∷ bs) h k e zero = f a b h.0 k.0 (first_same (head_of a) (head_of b) (heads xs) (heads bs) e)
told_at f (a ∷ xs) (b ∷ bs) h k e (suc n) = told_at f xs bs h.1 k.1 (others_same (head_of a) (head_of b) (heads xs) (heads bs) e) n

later_test : (a b : ℕ) → b < a → nat_eq a b ≡ false
later_test a b lt = grind (arith, nat_tests)

beyond : (k i n : ℕ) (fs : List File) → n ≡ k + i → slice_get fs i ≡ None → fresh.Every (Other n) (found_from k (units_of fs))
beyond k i n [] e h = tt
beyond k zero n (f ∷ fs) e h = absurd cc
beyond k (suc i) n (f ∷ fs) e h =
    fresh.every_append (Other n) (found_in k f.tokens (file_events f)) (found_from (suc k) (units_of fs))
    (other_found n k f.tokens (file_events f) (later_test n k (omega (arith, e)))) (beyond (suc k) i n fs (omega (arith, e)) h)

none_there : (n t : ℕ) (fs : List File) → slice_get fs n ≡ None → declared_at n t (found (units_of fs)) ≡ None
none_there n t fs h = let z : n ≡ 0 + n = omega arith in none_other n t (found_from 0 (units_of fs)) (beyond 0 n n fs z h)

pub both_or_none : (old new : List File) → heads old ≡ heads new → (n : ℕ) → option_map head_of (slice_get new n) ≡ option_map head_of (slice_get old n)
both_or_none old new e n = sym (slice_get-map head_of new n) ∙ ap (λ (hs : List Head). slice_get hs n) (sym e) ∙ slice_get-map head_of old n

-- ---- two packages

module _ (read : AreOrderlyRead) (order : OrderRead) (old new : List File) (h : AreRead old) (k : AreRead new) (e : heads old ≡ heads new) (objects : KeepsObjects old new) (meant : KeepsMeanings old new)
    (tell : (n : ℕ) → told_outside (file_in new n) ≡ told_outside (file_in old n)) where
  abbrev asks : List Asked
  asks = asked_from (meanings (units_of old)) 0 (units_of old)

  abbrev others : List Asked
  others = asked_from (meanings (units_of new)) 0 (units_of new)

  each_same : (x y : Needed) → SameSeeking old new x y → SameNeeds old new (needs asks x) (needs others y)
  each_same x y s =
      let z : (fs : List File) (i : ℕ) → file_in fs (0 + i) ≡ file_there (slice_get fs i) = λ fs i. let w : 0 + i ≡ i = omega arith in ap (file_in fs) w in
      all_needs old new meant (called_same read order old new h k objects meant tell) tell x y s 0 old new (stand_from old 0 old (z old)) (stand_from new 0 new (z new)) h k e

  -- packages of these files
  module _ (a b : Package) (in_a : a.uses ≡ uses (units_of old)) (in_b : b.uses ≡ uses (units_of new)) (asks_a : a.asked ≡ asks) (asks_b : b.asked ≡ others)
      (found_a : a.declared ≡ found (units_of old)) (found_b : b.declared ≡ found (units_of new)) where
    rounds_same : rounds b ≡ rounds a
    rounds_same =
        ap (λ (u : UsesView). length u.package_level + length u.package_level) in_b ∙ ap (λ i. i + i) objects.count
        ∙ sym (ap (λ (u : UsesView). length u.package_level + length u.package_level) in_a)

    abbrev closed : Package → List Asked → ℕ → Needed → List ℕ
    closed c xs i x = needed_numbers c (all_needed xs i (with_all (needs xs x) []))

    by_same : (x y : Needed) → SameSeeking old new x y → needed_by b y ≡ needed_by a x
    by_same x y s =
        ap (λ xs. closed b xs (rounds b) y) asks_b
        ∙ ap (λ i. closed b others i y) rounds_same
        ∙ numbers_same old new a b in_a in_b (all_needed asks (rounds a) (with_all (needs asks x) [])) (all_needed others (rounds a) (with_all (needs others y) []))
        (all_same old new asks others each_same (rounds a) (with_all (needs asks x) []) (with_all (needs others y) []) (all_with old new (needs asks x) (needs others y) [] [] (each_same x y s) tt))
        ∙ sym (ap (λ xs. closed a xs (rounds a) x) asks_a)

    by_none : (c : Package) (x : Needed) → x.it.it.source ≡ None → needed_by c x ≡ []
    by_none c x g = ap (λ xs. needed_numbers c (all_needed c.asked (rounds c) (with_all xs []))) (needs_none c.asked x g) ∙ ap (needed_numbers c) (nothing_needed c.asked (rounds c))

    abbrev sought : ℕ → Bool → Found → Needed
    sought column full d = record { it = record d { it = record (d.it) { column = column } }; full = full }

    module _ (n : ℕ) (t u : ℕ) (at : AtOnePlace old new n t u) (column : ℕ) (full : Bool) where
      abbrev p : ℕ → Bool
      p = in_bodies (parts (file_in old n).tree)

      abbrev q : ℕ → Bool
      q = in_bodies (parts (file_in new n).tree)

      found_same : (d c : Option Found) (v : Option NewName) → ToldAs p n (file_in old n).tokens t at.before d v → ToldAs q n (file_in new n).tokens u at.after c v → needed_from b column full c ≡ needed_from a column full d
      found_same None None None x y = refl
      found_same None (Some c) None x y = by_none b (sought column full c) y
      found_same (Some d) None None x y = sym (by_none a (sought column full d) x)
      found_same (Some d) (Some c) None x y = by_none b (sought column full c) y ∙ sym (by_none a (sought column full d) x)
      found_same None c (Some v) x y = absurd x
      found_same (Some d) None (Some v) x y = absurd y
      found_same (Some d) (Some c) (Some v) x y =
          by_same (sought column full d) (sought column full c) (record {
            file = y.0 ∙ sym x.0;
            source =
                subst (λ i. SameSource old new i d.it.source c.it.source) (sym x.0)
                (placed_source old new p q n d.it.source c.it.source (λ i j f g s. record { before = f; after = g; place = s }) x.3 y.3
                (ap (λ (z : NewName). z.source) (sym y.2 ∙ x.2)));
            column = refl;
            full = refl;
          })

      found_there : (f g : File) → slice_get old n ≡ Some f → slice_get new n ≡ Some g → needed_from b column full (declared_at n u (found (units_of new))) ≡ needed_from a column full (declared_at n t (found (units_of old)))
      found_there f g in_old in_new =
          let here : file_in old n ≡ f = ap file_there in_old in
          let here_new : file_in new n ≡ g = ap file_there in_new in
          let old_read : IsRead (file_in old n) = subst IsRead (sym here) (read_at old h n f in_old) in
          let new_read : IsRead (file_in new n) = subst IsRead (sym here_new) (read_at new k n g in_new) in
          let x = declared_told p n (file_in old n).tokens t at.before 0 (last (file_in old n).tree) (file_events (file_in old n)) (ordered order old (file_in old n) old_read)
          (file_agreed (kinds (file_in old n).tokens.tokens) (file_in old n).tree old_read.tree) in
          let y = declared_told q n (file_in new n).tokens u at.after 0 (last (file_in new n).tree) (file_events (file_in new n)) (ordered order new (file_in new n) new_read)
          (file_agreed (kinds (file_in new n).tokens.tokens) (file_in new n).tree new_read.tree) in
          let one : find_new (place_outside q u) (told_outside (file_in new n)) ≡ find_new (place_outside p t) (told_outside (file_in old n)) =
          ap (λ i. find_new i (told_outside (file_in new n))) at.place ∙ ap (find_new (place_outside p t)) (tell n) in
          ap (needed_from b column full) (declared_in_file n u new g in_new ∙ ap (λ (z : File). declared_at n u (found_in n z.tokens (file_events z))) (sym here_new))
          ∙ found_same (declared_at n t (found_in n (file_in old n).tokens (file_events (file_in old n)))) (declared_at n u (found_in n (file_in new n).tokens (file_events (file_in new n))))
          (find_new (place_outside p t) (told_outside (file_in old n))) x
          (subst (ToldAs q n (file_in new n).tokens u at.after (declared_at n u (found_in n (file_in new n).tokens (file_events (file_in new n))))) one y)
          ∙ sym (ap (needed_from a column full) (declared_in_file n t old f in_old ∙ ap (λ (z : File). declared_at n t (found_in n z.tokens (file_events z))) (sym here)))

      by_file : (f g : Option File) → slice_get old n ≡ f → slice_get new n ≡ g → option_map head_of g ≡ option_map head_of f
          → needed_from b column full (declared_at n u (found (units_of new))) ≡ needed_from a column full (declared_at n t (found (units_of old)))
      by_file None None x y z = ap (needed_from b column full) (none_there n u new y) ∙ sym (ap (needed_from a column full) (none_there n t old x))
      by_file None (Some g) x y z = absurd cc
      by_file (Some f) None x y z = absurd cc
      by_file (Some f) (Some g) x y z = found_there f g x y

      pub needed_kept : needed_at b n u column full ≡ needed_at a n t column full
      needed_kept =
          ap (λ ds. needed_from b column full (declared_at n u ds)) found_b
          ∙ by_file (slice_get old n) (slice_get new n) refl refl (both_or_none old new e n)
          ∙ sym (ap (λ ds. needed_from a column full (declared_at n t ds)) found_a)

pub needs_kept : AreOrderlyRead → OrderRead → ((a b : File) → IsRead a → IsRead b → head_of a ≡ head_of b → told_outside b ≡ told_outside a)
    → ((old new : List File) → AreRead old → AreRead new → heads old ≡ heads new → KeepsObjects old new)
    → ((old new : List File) → AreRead old → AreRead new → heads old ≡ heads new → KeepsMeanings old new)
    → (ss us : List Source) (ws vs : List (List ℕ)) → AreNamed ws ss → AreNamed vs us → AreRead (files_of ws ss) → AreRead (files_of vs us) → heads (files_of ws ss) ≡ heads (files_of vs us)
    → KeepsNeeds (package_of ss (uses (map unit_of ss))) (package_of us (uses (map unit_of us))) (files_of ws ss) (files_of vs us)
needs_kept read order tell objects meant ss us ws vs x y h k e =
    let old : List File = files_of ws ss in
    let new : List File = files_of vs us in
    let s : units_of old ≡ map unit_of ss = units_same ws ss x in
    let r : units_of new ≡ map unit_of us = units_same vs us y in
    let asked : List names.Unit → List Asked = λ zs. asked_from (meanings zs) 0 zs in
    record {
      needed =
          λ n t u at column full.
          needed_kept read order old new h k e (objects old new h k e) (meant old new h k e) (told_at tell old new h k e)
          (package_of ss (uses (map unit_of ss))) (package_of us (uses (map unit_of us))) (ap uses (sym s)) (ap uses (sym r)) (ap asked (sym s)) (ap asked (sym r)) (ap found (sym s)) (ap found (sym r))
          n t u at column full;
    }
