-- The rules on clauses fail at the same places where a function is appended.
use Rattle.std.proofs.Common.{◌≡◌, ◌∙◌, ℕ, suc, ◌+◌, ◌<◌, Bool, true, false, ◌&&◌, ◌||◌, not, List, [], ◌∷◌, ◌++◌, map, refl, sym, ap, subst, arith}
use Rattle.std.specs.Prelude.{nat_eq, codes}
use Rattle.std.specs.List.{AllByRecursion}
use Rattle.std.proofs.lemmas.Bool.{eqb-true}
use Rattle.go_base.specs.declared.fault.FaultCode.TheVariants as code
use Rattle.go_tokens.specs.Spellings.{same_text}
use Rattle.go_tokens.specs.Tokens.{TokenList}
use Rattle.go_tokens.proofs.Public.{same_text-true}
use Rattle.go_tree.specs.declared.event.Event.{Event}
use Rattle.go_tree.specs.declared.event.Event.TheVariants as event
use Rattle.go_tree.specs.Clauses.{first_name, other_names, package_names, imports, other_imports, outside_declarations, declares, is_spelled, read_byte, is_read_byte, bodiless, missing_bodies}
use Rattle.go_tree.specs.Declarations.{Found, found, found_from, found_in}
use Rattle.go_tree.specs.Failures.{failing, of_files}
use Rattle.go_tree.specs.Faults.{clause_faults}
use Rattle.go_tree.specs.Units.{Unit, word, is_blank, bytes_at}
use Rattle.go_heads_added.specs.Added.{reaching, longer, AreEarlier, IsAdded, NoneSays}
use Rattle.go_heads_added.specs.Faults.{FileIsWithin}
use Rattle.go_heads_added.specs.Reported.{EventPlaced, KeepsBytes}
use Rattle.go_heads_added.specs.Within.{IsOfFunction}
use Rattle.go_heads_added.proofs.DeclaredSame.{declares_same, outside_same}
use Rattle.go_heads_added.proofs.Faultless.{last_word, spelled_same}
use Rattle.go_heads_added.proofs.Files.{Rule}
use Rattle.go_heads_added.proofs.Found.{found_earlier, found_later}
use Rattle.go_heads_added.proofs.Names.{added}
use Rattle.go_heads_added.proofs.SameInFiles.{bodiless_same, imports_same, placed_same}
use Rattle.go_heads_added.proofs.Texts.{Says, all_front, all_behind, all_say}

-- ---- lists

pub four_same : {A : Type 0} {a b c d x y z u : List A} → a ≡ x → b ≡ y → c ≡ z → d ≡ u → a ++ b ++ c ++ d ≡ x ++ y ++ z ++ u
four_same {A} {a} {b} {c} {d} {x} {y} {z} {u} p q r s =
    ap (λ w. w ++ b ++ c ++ d) p ∙ ap (λ w. x ++ w ++ c ++ d) q ∙ ap (λ w. x ++ y ++ w ++ d) r ∙ ap (λ w. x ++ y ++ z ++ w) s

pub five_same : {A : Type 0} {a b c d e x y z u v : List A} → a ≡ x → b ≡ y → c ≡ z → d ≡ u → e ≡ v → a ++ b ++ c ++ d ++ e ≡ x ++ y ++ z ++ u ++ v
five_same {A} {a} {b} {c} {d} {e} {x} {y} {z} {u} {v} p q r s t =
    ap (λ w. w ++ b ++ c ++ d ++ e) p ∙ ap (λ w. x ++ w ++ c ++ d ++ e) q ∙ ap (λ w. x ++ y ++ w ++ d ++ e) r ∙ ap (λ w. x ++ y ++ z ++ w ++ e) s ∙ ap (λ w. x ++ y ++ z ++ u ++ w) t

pub two_same : {A : Type 0} {a b x y : List A} → a ≡ x → b ≡ y → a ++ b ≡ x ++ y
two_same {A} {a} {b} {x} {y} p q = ap (λ w. w ++ b) p ∙ ap (λ w. x ++ w) q

-- ---- files

abbrev pub Same : Rule → Rule → Unit → Type 0
Same r s u = (m : ℕ) → s m u.tokens u.events ≡ r m u.tokens u.events

module _ (r s : Rule) where
  rest_same : (n : ℕ) (us : List Unit) → AllByRecursion (Same r s) us → of_files s n us ≡ of_files r n us
  rest_same n [] h = refl
  rest_same n (u ∷ us) h = two_same (h.0 n) (rest_same (suc n) us h.1)

  pub one_same : (n : ℕ) (us : List Unit) (a b : Unit) (vs : List Unit) → AllByRecursion (Same r s) us → AllByRecursion (Same r s) vs → ((m : ℕ) → s m b.tokens b.events ≡ r m a.tokens a.events)
      → of_files s n (us ++ b ∷ vs) ≡ of_files r n (us ++ a ∷ vs)
  one_same n [] a b vs h k c = two_same (c n) (rest_same (suc n) vs k)
  one_same n (u ∷ us) a b vs h k c = two_same (h.0 n) (one_same (suc n) us a b vs h.1 k c)

pub nothing_changes : (r : Rule) (us : List Unit) → AllByRecursion (Same r r) us
nothing_changes r [] = tt
nothing_changes r (u ∷ us) = (λ m. refl, nothing_changes r us)

module _ (a b : Unit) (same : word b.tokens 1 ≡ word a.tokens 1) (place : (m : ℕ) → bytes_at m b.tokens 1 ≡ bytes_at m a.tokens 1) where
  first_same : (us vs : List Unit) → first_name (us ++ b ∷ vs) ≡ first_name (us ++ a ∷ vs)
  first_same [] vs = same
  first_same (u ∷ us) vs = refl

  other_same : (w : List ℕ) (n : ℕ) (us vs : List Unit) → other_names w n (us ++ b ∷ vs) ≡ other_names w n (us ++ a ∷ vs)
  other_same w n [] vs =
      placed_same (is_blank (word b.tokens 1) || not (same_text (word b.tokens 1) w)) (is_blank (word a.tokens 1) || not (same_text (word a.tokens 1) w)) (bytes_at n b.tokens 1) (bytes_at n a.tokens 1)
      (other_names w (suc n) vs) (other_names w (suc n) vs) (ap (λ x. is_blank x || not (same_text x w)) same) (place n) refl
  other_same w n (u ∷ us) vs =
      placed_same (is_blank (word u.tokens 1) || not (same_text (word u.tokens 1) w)) (is_blank (word u.tokens 1) || not (same_text (word u.tokens 1) w)) (bytes_at n u.tokens 1) (bytes_at n u.tokens 1)
      (other_names w (suc n) (us ++ b ∷ vs)) (other_names w (suc n) (us ++ a ∷ vs)) refl refl (other_same w (suc n) us vs)

  names_same : (us vs : List Unit) → package_names (us ++ b ∷ vs) ≡ package_names (us ++ a ∷ vs)
  names_same us vs = ap (λ w. other_names w 0 (us ++ b ∷ vs)) (first_same us vs) ∙ other_same (first_name (us ++ a ∷ vs)) 0 us vs

-- ---- clauses

module _ (k n : ℕ) (name : List ℕ) (old new : List Unit) (h : IsAdded k n name old new) (early : AreEarlier n h.a.events) (named : is_blank name ≡ false) (q : NoneSays name old) (w : FileIsWithin k n name old new h)
    (initial : same_text name (codes "init") ≡ false) (tells : AllByRecursion (IsOfFunction n) h.longer.added) (bytes : KeepsBytes n h.a.tokens h.b.tokens) (stand : AllByRecursion (EventPlaced n) h.a.events) where
  abbrev e : ℕ
  e = h.longer.end

  abbrev ts : TokenList
  ts = h.a.tokens

  abbrev us : TokenList
  us = h.b.tokens

  abbrev extra : List Event
  extra = h.longer.added

  abbrev longest : List Event
  longest = map (reaching e) h.a.events ++ extra

  pub says : AllByRecursion (Says name) (h.before ++ h.a ∷ h.behind)
  says = all_say name (h.before ++ h.a ∷ h.behind) (subst (NoneSays name) h.was q)

  pub by_rules : (r t : Rule) → AllByRecursion (Same r t) h.before → AllByRecursion (Same r t) h.behind → ((m : ℕ) → t m us longest ≡ r m ts h.a.events) → of_files t 0 new ≡ of_files r 0 old
  by_rules r t x y f =
      ap (of_files t 0) h.is ∙ one_same r t 0 h.before h.a h.b h.behind x y (λ m. ap (t m us) h.longer.events ∙ f m) ∙ ap (of_files r 0) (sym h.was)

  pub by_files : (r : Rule) → ((m : ℕ) → r m us longest ≡ r m ts h.a.events) → of_files r 0 new ≡ of_files r 0 old
  by_files r f = by_rules r r (nothing_changes r h.before) (nothing_changes r h.behind) f

  abbrev first_found : List Found
  first_found = found_from 0 h.before ++ found_in k h.a.tokens h.a.events

  abbrev last_found : List Found
  last_found = found_from (suc k) h.behind

  clause_names : package_names new ≡ package_names old
  clause_names =
      ap package_names h.is ∙ names_same h.a h.b (h.longer.words 1 w.clause) (λ m. bytes.places m 1 2 w.clause (let l = w.clause in omega (arith, l))) h.before h.behind ∙ ap package_names (sym h.was)

  clause_imports : imports new ≡ imports old
  clause_imports = by_files other_imports (λ m. imports_same n e ts us h.longer.words bytes m h.a.events extra w.events tells)

  clause_outside : outside_declarations (found new) ≡ outside_declarations (found old)
  clause_outside =
      ap outside_declarations (found_later k n name old new h early)
      ∙ outside_same k n e name h.longer.function h.longer.parameters h.longer.is_function h.longer.are_parameters first_found last_found named initial
      ∙ ap outside_declarations (sym (found_earlier k n name old new h early))

  abbrev b : Bool
  b = declares (codes "int") (found old)

  abbrev c : Bool
  c = declares (codes "int") (found new)

  declares_int : same_text name (codes "int") ≡ false → c ≡ b
  declares_int o =
      ap (declares (codes "int")) (found_later k n name old new h early)
      ∙ declares_same k n e name h.longer.function h.longer.parameters h.longer.is_function h.longer.are_parameters (codes "int") first_found last_found o
      ∙ ap (declares (codes "int")) (sym (found_earlier k n name old new h early))

  read_same : (xs ys : TokenList) → ((t : ℕ) → same_text name (word xs t) ≡ false) → (x y : ℕ) → (nat_eq y (x + 5) ≡ true → (t : ℕ) → t < x + 5 → word ys t ≡ word xs t) → is_read_byte c ys x y ≡ is_read_byte b xs x y
  read_same xs ys apart x y words = by (nat_eq y (x + 5)) refl
    where
      spelled : (z : Bool) → is_spelled xs x read_byte ≡ z → (true && z && not c) ≡ (true && z && not b)
      spelled false p = refl
      spelled true p =
          let int : word xs (suc (suc (suc (suc x)))) ≡ codes "int" = same_text-true (word xs (suc (suc (suc (suc x))))) (codes "int") (last_word xs x p) in
          ap not (declares_int (subst (λ z. same_text name z ≡ false) int (apart (suc (suc (suc (suc x)))))))

      by : (z : Bool) → nat_eq y (x + 5) ≡ z → (z && is_spelled ys x read_byte && not c) ≡ (z && is_spelled xs x read_byte && not b)
      by false p = refl
      by true p = ap (λ v. true && v && not c) (spelled_same xs ys x read_byte (words p)) ∙ spelled (is_spelled xs x read_byte) refl

  other_bodies : (vs : List Unit) → AllByRecursion (Says name) vs → AllByRecursion (Same (bodiless b) (bodiless c)) vs
  other_bodies [] x = tt
  other_bodies (v ∷ vs) x = (λ m. each m v.events, other_bodies vs x.1)
    where
      each : (m : ℕ) (es : List Event) → bodiless c m v.tokens es ≡ bodiless b m v.tokens es
      each m es = whole_bodies v.tokens (λ p r. read_same v.tokens v.tokens x.0 p r (λ z t l. refl)) m es
        where
          whole_bodies : (xs : TokenList) → ((p r : ℕ) → is_read_byte c xs p r ≡ is_read_byte b xs p r) → (m : ℕ) (es : List Event) → bodiless c m xs es ≡ bodiless b m xs es
          whole_bodies xs f m [] = refl
          whole_bodies xs f m (event.Bodiless p r ∷ es) =
              placed_same (not (is_read_byte c xs p r)) (not (is_read_byte b xs p r)) (bytes_at m xs (suc p)) (bytes_at m xs (suc p)) (bodiless c m xs es) (bodiless b m xs es) (ap not (f p r)) refl (whole_bodies xs f m es)
          whole_bodies xs f m (x ∷ es) = whole_bodies xs f m es

  clause_bodies : missing_bodies (found new) new ≡ missing_bodies (found old) old
  clause_bodies =
      by_rules (bodiless b) (bodiless c) (other_bodies h.before (all_front (Says name) h.before (h.a ∷ h.behind) says)) (other_bodies h.behind (all_behind (Says name) h.before (h.a ∷ h.behind) says).1)
      (λ m. bodiless_same n e ts us h.longer.words bytes b c
      (λ x y l. read_same ts us (all_behind (Says name) h.before (h.a ∷ h.behind) says).0 x y (λ p t v. h.longer.words t (let z : y ≡ x + 5 = eqb-true y (x + 5) p in omega (arith, l, v, z)))) m h.a.events extra w.events stand tells)

  pub clauses_same : clause_faults new ≡ clause_faults old
  clauses_same = four_same (ap (failing code.PackageName) clause_names) (ap (failing code.Outside) clause_imports) (ap (failing code.Outside) clause_outside) (ap (failing code.Outside) clause_bodies)

-- ---- a package
