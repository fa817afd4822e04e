-- Trees that agree have words that are alike.
use Rattle.std.proofs.Common.{◌≡◌, ℕ, suc, Bool, true, false, List, [], ◌∷◌, ◌++◌, length, Option, Some, None, refl, sym, ap, subst, ◌∙◌, arith, length-append}
use Rattle.std.specs.Prelude.{◌&&◌, ◌||◌, nat_eq, if◌then◌else◌}
use Rattle.std.specs.Option.{option_to_list}
use Rattle.std.proofs.lemmas.Bool.{and_parts, and_from, eqb-true}
use Rattle.go_typed.specs.declared.form.Form.{Form}
use Rattle.go_typed.specs.Forms.{local_of}
use Rattle.go_typed.specs.Trees.{Sort, Nothing, Typed, typed, Typeds, none, more, skip}
use Rattle.clone_window.specs.declared.outline.Outline.{Outline}
use Rattle.clone_window.specs.Kinds.{outline}
use Rattle.clone_window.specs.Masses.{is_hole, is_inside}
use Rattle.clone_window.specs.Sameness.{final, same_final, value_of, are_alike, same_outline, Compared, by_form, by_sort, by_literal, compared, agree_besides, agree_at, agree, all_agree, locals, all_locals}
use Rattle.clone_window.proofs.Public.{as-many-here, all-as-many}
use Rattle.clone_window.specs.Fields.{names_field, field_name, same_field, fields_agree, all_fields_agree}
use Rattle.alpha_hash_defs.specs.Alike.{AreAlike, NamesAgree}
use Rattle.alpha_hash_defs.specs.Hash.{text_fold}
use Rattle.alpha_hash_defs.specs.Naming.{Naming, final_text}
use Rattle.alpha_hash_defs.specs.Words.{Word, number, named, begins_with_list, last_list, length_if, is_at, lengths_at, row_length, one_if, kind_words, operator_words, local_words, object_words, field_words, compared_words, defined_words, constant_words, blank_words, name_words, declared_words, all_declared, constants_words, own_words, hole_words, is_defined, words, row_words, window_words}
use Rattle.alpha_hash_defs.proofs.Texts.{name-is, literals-text, finals-text, alike-texts}

-- ---- rows of locals

-- the locals of two rows are related one by one
abbrev pub Paired : (ℕ → ℕ → Bool) → List ℕ → List ℕ → Type 0
Paired R [] [] = Unit {0}
Paired R (x ∷ xs) (y ∷ ys) = (R x y ≡ true) × Paired R xs ys
Paired R _ _ = ⊥

paired-split : (R : ℕ → ℕ → Bool) (xs ys us vs : List ℕ) → length xs ≡ length us → Paired R (xs ++ ys) (us ++ vs) → Paired R xs us × Paired R ys vs
paired-split R [] ys [] vs e h = (tt, h)
paired-split R [] ys (u ∷ us) vs e h = absurd (omega (arith, e))
paired-split R (x ∷ xs) ys [] vs e h = absurd (omega (arith, e))
paired-split R (x ∷ xs) ys (u ∷ us) vs e h =
    let r = paired-split R xs ys us vs (omega (arith, e)) h.1 in
    ((h.0, r.0), r.1)

-- related locals stand for what is alike
abbrev pub LocalsAgree : {T : Type 0} → (T → T → Bool) → Naming T → Naming T → (ℕ → ℕ → Bool) → Type 0
LocalsAgree d n m R = (x y : ℕ) → R x y ≡ true → are_alike d (n.local_sort x) (m.local_sort y) ≡ true

-- ---- rows of words

alike-append : (R : ℕ → ℕ → Bool) (ws vs ws' vs' : List Word) → AreAlike R ws vs → AreAlike R ws' vs' → AreAlike R (ws ++ ws') (vs ++ vs')
alike-append R [] [] ws' vs' h k = k
alike-append R [] (number b ∷ vs) ws' vs' h k = absurd h
alike-append R [] (named b ∷ vs) ws' vs' h k = absurd h
alike-append R (number a ∷ ws) [] ws' vs' h k = absurd h
alike-append R (named a ∷ ws) [] ws' vs' h k = absurd h
alike-append R (number a ∷ ws) (number b ∷ vs) ws' vs' h k = (h.0, alike-append R ws vs ws' vs' h.1 k)
alike-append R (number a ∷ ws) (named b ∷ vs) ws' vs' h k = absurd h
alike-append R (named a ∷ ws) (number b ∷ vs) ws' vs' h k = absurd h
alike-append R (named a ∷ ws) (named b ∷ vs) ws' vs' h k = (h.0, alike-append R ws vs ws' vs' h.1 k)

alike-one : (R : ℕ → ℕ → Bool) (b : Bool) (x y : ℕ) → x ≡ y → AreAlike R (one_if b x) (one_if b y)
alike-one R true x y e = (e, tt)
alike-one R false x y e = tt

alike-one-if : (R : ℕ → ℕ → Bool) (b : Bool) (x y : ℕ) → (b ≡ true → x ≡ y) → AreAlike R (one_if b x) (one_if b y)
alike-one-if R true x y e = (e refl, tt)
alike-one-if R false x y e = tt

alike-length : (R : ℕ → ℕ → Bool) (b : Bool) (x y : ℕ) → x ≡ y → AreAlike R (length_if b x) (length_if b y)
alike-length R true x y e = (e, tt)
alike-length R false x y e = tt

alike-lengths : (R : ℕ → ℕ → Bool) (o : Outline) (k x y : ℕ) → x ≡ y → AreAlike R (lengths_at o k x) (lengths_at o k y)
alike-lengths R o k x y e =
    alike-append R (length_if (begins_with_list o && nat_eq k 0) o.count) (length_if (begins_with_list o && nat_eq k 0) o.count) (length_if (is_at (last_list o) k) x) (length_if (is_at (last_list o) k) y)
    (alike-length R (begins_with_list o && nat_eq k 0) o.count o.count refl) (alike-length R (is_at (last_list o) k) x y e)

-- ---- own words

alike-local : (R : ℕ → ℕ → Bool) (x y : Option ℕ) → Paired R (option_to_list x) (option_to_list y) → AreAlike R (local_words x) (local_words y)
alike-local R None None h = tt
alike-local R None (Some y) h = absurd h
alike-local R (Some x) None h = absurd h
alike-local R (Some x) (Some y) h = (h.0, tt)

alike-compared : {T : Type 0} (d : T → T → Bool) (n m : Naming T) (R : ℕ → ℕ → Bool) → NamesAgree d n m → (b c : Compared) (o : Outline) (s t : Sort T) → agree_besides d b c s t ≡ true →
    AreAlike R (compared_words n b o s) (compared_words m c o t)
alike-compared d n m R names by_form by_form o s t h = tt
alike-compared d n m R names by_form by_sort o s t h = cc
alike-compared d n m R names by_form by_literal o s t h = cc
alike-compared d n m R names by_sort by_form o s t h = cc
alike-compared d n m R names by_sort by_sort o s t h =
    alike-one R (nat_eq o.kind 52) (text_fold (final_text n (final s))) (text_fold (final_text m (final t))) (ap text_fold (alike-texts d n m names s t h).type_is)
alike-compared d n m R names by_sort by_literal o s t h = cc
alike-compared d n m R names by_literal by_form o s t h = cc
alike-compared d n m R names by_literal by_sort o s t h = cc
alike-compared d n m R names by_literal by_literal o s t h = (ap text_fold (literals-text (value_of s) (value_of t) h), tt)

alike-constant : {T : Type 0} (d : T → T → Bool) (n m : Naming T) (R : ℕ → ℕ → Bool) → NamesAgree d n m → (s t : Sort T) → are_alike d s t ≡ true →
    AreAlike R (constant_words n s) (constant_words m t)
alike-constant d n m R names s t h = let e = alike-texts d n m names s t h in (ap text_fold e.type_is, (ap text_fold e.value_is, tt))

alike-blank : {T : Type 0} (d : T → T → Bool) (n m : Naming T) (R : ℕ → ℕ → Bool) → NamesAgree d n m → (b c : Compared) (s t : Sort T) → agree_besides d b c s t ≡ true →
    AreAlike R (blank_words n b s) (blank_words m c t)
alike-blank d n m R names by_form by_form s t h = tt
alike-blank d n m R names by_form by_sort s t h = cc
alike-blank d n m R names by_form by_literal s t h = cc
alike-blank d n m R names by_sort by_form s t h = cc
alike-blank d n m R names by_sort by_sort s t h = alike-constant d n m R names s t h
alike-blank d n m R names by_sort by_literal s t h = cc
alike-blank d n m R names by_literal by_form s t h = cc
alike-blank d n m R names by_literal by_sort s t h = cc
alike-blank d n m R names by_literal by_literal s t h = tt

alike-name : {T : Type 0} (d : T → T → Bool) (n m : Naming T) (R : ℕ → ℕ → Bool) → NamesAgree d n m → LocalsAgree d n m R → (x y : Option ℕ) (b c : Compared) (s t : Sort T) →
    Paired R (option_to_list x) (option_to_list y) → agree_besides d b c s t ≡ true → AreAlike R (name_words n x b s) (name_words m y c t)
alike-name d n m R names sorts None None b c s t p h = alike-blank d n m R names b c s t h
alike-name d n m R names sorts None (Some y) b c s t p h = absurd p
alike-name d n m R names sorts (Some x) None b c s t p h = absurd p
alike-name d n m R names sorts (Some x) (Some y) b c s t p h = alike-constant d n m R names (n.local_sort x) (m.local_sort y) (sorts x y p.0)

-- ---- nodes that agree

record Parts (x y z : Bool) : Type 0 where
  first : x ≡ true
  second : y ≡ true
  third : z ≡ true

three : (x y z : Bool) → (x && y && z) ≡ true → Parts x y z
three x y z h = let p = and_parts (x && y) z h in let q = and_parts x y p.0 in record { first = q.0; second = q.1; third = p.1 }

outline-is : (a b : Outline) → same_outline a b ≡ true → a ≡ b
outline-is a b h =
    let p = three (nat_eq a.kind b.kind) (nat_eq a.operator b.operator) (nat_eq a.count b.count) h in
    let k = eqb-true a.kind b.kind p.first in
    let o = eqb-true a.operator b.operator p.second in
    let c = eqb-true a.count b.count p.third in
    let P : ℕ → ℕ → ℕ → Outline = λ x y z. record { kind = x; operator = y; count = z } in
    ap (λ x. P x a.operator a.count) k ∙ ap (λ y. P b.kind y a.count) o ∙ ap (λ z. P b.kind b.operator z) c

-- A hole stands against a hole, and any other node against one that is none.
at-node : {T : Type 0} (d : T → T → Bool) (R : ℕ → ℕ → Bool) (x y : Bool) (f g : Form) (s t : Sort T) (parts : Bool) (hw hv bw bv : List Word) → agree_at d x y f g s t parts ≡ true →
    (same_final d (final s) (final t) ≡ true → AreAlike R hw hv) →
    (x ≡ false → y ≡ false → Parts (same_outline (outline f) (outline g)) (agree_besides d (compared f) (compared g) s t) parts → AreAlike R bw bv) →
    AreAlike R (if x then hw else bw) (if y then hv else bv)
at-node d R true true f g s t parts hw hv bw bv h hole body = hole h
at-node d R true false f g s t parts hw hv bw bv h hole body = cc
at-node d R false true f g s t parts hw hv bw bv h hole body = cc
at-node d R false false f g s t parts hw hv bw bv h hole body = body refl refl (three (same_outline (outline f) (outline g)) (agree_besides d (compared f) (compared g) s t) parts h)

-- the locals of a part, and those behind it
part-paired : {T : Type 0} (d : T → T → Bool) (R : ℕ → ℕ → Bool) (a b : Bool) (p q : Typed T) (ps qs : Typeds T) → agree d a b p q ≡ true → Paired R (all_locals a (more p ps)) (all_locals b (more q qs)) →
    Paired R (locals a p) (locals b q) × Paired R (all_locals a ps) (all_locals b qs)
part-paired d R a b p q ps qs h k =
    let one = all-as-many d a b (more p none) (more q none) (and_from (agree d a b p q) true h refl) in
    let e : length (locals a p) ≡ length (locals b q) = omega (arith, one, length-append (locals a p) [], length-append (locals b q) []) in
    paired-split R (locals a p) (all_locals a ps) (locals b q) (all_locals b qs) e k

-- the local of a node that is no hole, and those of its parts
node-paired : (R : ℕ → ℕ → Bool) (x y : Bool) (f g : Form) (ms ns : List ℕ) → x ≡ false → y ≡ false → same_outline (outline f) (outline g) ≡ true →
    Paired R (if x then [] else option_to_list (local_of f) ++ ms) (if y then [] else option_to_list (local_of g) ++ ns) → Paired R (option_to_list (local_of f)) (option_to_list (local_of g)) × Paired R ms ns
node-paired R true y f g ms ns e k h p = cc
node-paired R false true f g ms ns e k h p = cc
node-paired R false false f g ms ns e k h p = paired-split R (option_to_list (local_of f)) ms (option_to_list (local_of g)) ns (as-many-here f g h) p

-- ---- declarations of constants

alike-declared : {T : Type 0} (d : T → T → Bool) (n m : Naming T) (R : ℕ → ℕ → Bool) → NamesAgree d n m → LocalsAgree d n m R → (a b : Bool) (p q : Typed T) → agree d a b p q ≡ true →
    Paired R (locals a p) (locals b q) → AreAlike R (declared_words n a p) (declared_words m b q)
alike-declared d n m R names sorts a b (typed f i j l ps) (typed g k r v qs) h paired =
    at-node d R (is_hole a f l) (is_hole b g v) f g l.sort v.sort (all_agree d (is_inside a f l) (is_inside b g v) ps qs) [] []
    (name_words n (local_of f) (compared f) l.sort) (name_words m (local_of g) (compared g) v.sort) h (λ _. tt)
    (λ x y c. alike-name d n m R names sorts (local_of f) (local_of g) (compared f) (compared g) l.sort v.sort
    (node-paired R (is_hole a f l) (is_hole b g v) f g (all_locals (is_inside a f l) ps) (all_locals (is_inside b g v) qs) x y c.first paired).0 c.second)

alike-all-declared : {T : Type 0} (d : T → T → Bool) (n m : Naming T) (R : ℕ → ℕ → Bool) → NamesAgree d n m → LocalsAgree d n m R → (a b : Bool) (ps qs : Typeds T) → all_agree d a b ps qs ≡ true →
    Paired R (all_locals a ps) (all_locals b qs) → AreAlike R (all_declared n a ps) (all_declared m b qs)
alike-all-declared d n m R names sorts a b none none h paired = tt
alike-all-declared d n m R names sorts a b none (more q qs) h paired = cc
alike-all-declared d n m R names sorts a b none (skip qs) h paired = cc
alike-all-declared d n m R names sorts a b (more p ps) none h paired = cc
alike-all-declared d n m R names sorts a b (more p ps) (more q qs) h paired =
    let e = and_parts (agree d a b p q) (all_agree d a b ps qs) h in
    let k = part-paired d R a b p q ps qs e.0 paired in
    alike-append R (declared_words n a p) (declared_words m b q) (all_declared n a ps) (all_declared m b qs)
    (alike-declared d n m R names sorts a b p q e.0 k.0) (alike-all-declared d n m R names sorts a b ps qs e.1 k.1)
alike-all-declared d n m R names sorts a b (more p ps) (skip qs) h paired = cc
alike-all-declared d n m R names sorts a b (skip ps) none h paired = cc
alike-all-declared d n m R names sorts a b (skip ps) (more q qs) h paired = cc
alike-all-declared d n m R names sorts a b (skip ps) (skip qs) h paired = alike-all-declared d n m R names sorts a b ps qs h paired

alike-if : (R : ℕ → ℕ → Bool) (b : Bool) (ws vs : List Word) → AreAlike R ws vs → AreAlike R (if b then ws else []) (if b then vs else [])
alike-if R true ws vs h = h
alike-if R false ws vs h = tt

alike-defined : (R : ℕ → ℕ → Bool) (z : Bool) (o : Outline) → AreAlike R (defined_words z o) (defined_words z o)
alike-defined R true o = alike-append R (one_if (nat_eq o.kind 31) o.count) (one_if (nat_eq o.kind 31) o.count) (one_if (nat_eq o.kind 33) 2) (one_if (nat_eq o.kind 33) 2) (alike-one R (nat_eq o.kind 31) o.count o.count refl) (alike-one R (nat_eq o.kind 33) 2 2 refl)
alike-defined R false o = tt

field-is : (b : Bool) (x y : List ℕ) → same_field b x y ≡ true → b ≡ true → text_fold x ≡ text_fold y
field-is true x y h e = ap text_fold (name-is x y h)
field-is false x y h e = cc

alike-own : {T : Type 0} (d : T → T → Bool) (n m : Naming T) (R : ℕ → ℕ → Bool) → NamesAgree d n m → LocalsAgree d n m R → (a b z : Bool) (s t : Sort T) (o : Outline) (x y : Option ℕ) (c e : Compared) (u v : Sort T) (ps qs : Typeds T) →
    Paired R (option_to_list x) (option_to_list y) → agree_besides d c e u v ≡ true → same_field (names_field o) (field_name n.field_text s o ps) (field_name m.field_text t o qs) ≡ true → all_agree d a b ps qs ≡ true →
    Paired R (all_locals a ps) (all_locals b qs) → AreAlike R (own_words n a z s o x c u ps) (own_words m b z t o y e v qs)
alike-own d n m R names sorts a b z s t o x y c e u v ps qs here besides field parts within =
    let k1 = alike-append R (kind_words o) (kind_words o) (operator_words o) (operator_words o) (alike-one R _ o.kind o.kind refl) (alike-one R _ o.operator o.operator refl) in
    let k2 = alike-append R _ _ (local_words x) (local_words y) k1 (alike-local R x y here) in
    let k3 = alike-append R _ _ (object_words n o) (object_words m o) k2 (alike-one R _ (text_fold (n.object_text o)) (text_fold (m.object_text o)) (ap text_fold (names.objects o))) in
    let k4 = alike-append R _ _ (field_words n s o ps) (field_words m t o qs) k3 (alike-one-if R (names_field o) (text_fold (field_name n.field_text s o ps)) (text_fold (field_name m.field_text t o qs)) (field-is (names_field o) (field_name n.field_text s o ps) (field_name m.field_text t o qs) field)) in
    let k5 = alike-append R _ _ (compared_words n c o u) (compared_words m e o v) k4 (alike-compared d n m R names c e o u v besides) in
    let k6 = alike-append R _ _ (defined_words z o) (defined_words z o) k5 (alike-defined R z o) in
    alike-append R _ _ (constants_words n a o ps) (constants_words m b o qs) k6 (alike-if R (nat_eq o.kind 8) (all_declared n a ps) (all_declared m b qs) (alike-all-declared d n m R names sorts a b ps qs parts within))

row-lengths : {T : Type 0} (d : T → T → Bool) (a b : Bool) (ps qs : Typeds T) → all_agree d a b ps qs ≡ true → row_length ps ≡ row_length qs
row-lengths d a b none none h = refl
row-lengths d a b none (more q qs) h = cc
row-lengths d a b none (skip qs) h = cc
row-lengths d a b (more p ps) none h = cc
row-lengths d a b (more p ps) (more q qs) h = ap suc (row-lengths d a b ps qs (and_parts (agree d a b p q) (all_agree d a b ps qs) h).1)
row-lengths d a b (more p ps) (skip qs) h = cc
row-lengths d a b (skip ps) none h = cc
row-lengths d a b (skip ps) (more q qs) h = cc
row-lengths d a b (skip ps) (skip qs) h = ap suc (row-lengths d a b ps qs h)

unless-hole : (x y : Bool) → x ≡ false → (x || y) ≡ true → y ≡ true
unless-hole true y e h = cc
unless-hole false y e h = h

-- ---- trees

mutual
  alike-words : {T : Type 0} (d : T → T → Bool) (n m : Naming T) (R : ℕ → ℕ → Bool) → NamesAgree d n m → LocalsAgree d n m R → (a b z : Bool) (s t : Sort T) (p q : Typed T) → agree d a b p q ≡ true →
      fields_agree n.field_text m.field_text a b s t p q ≡ true → Paired R (locals a p) (locals b q) → AreAlike R (words n a z s p) (words m b z t q)
  alike-words d n m R names sorts a b z s t (typed f i j l ps) (typed g k r v qs) h fields paired =
      let inside = is_inside a f l in
      let within = is_inside b g v in
      at-node d R (is_hole a f l) (is_hole b g v) f g l.sort v.sort (all_agree d inside within ps qs) (hole_words n l.sort) (hole_words m v.sort)
      (own_words n inside z s (outline f) (local_of f) (compared f) l.sort ps ++ row_words n inside (outline f) l.sort 0 ps)
      (own_words m within z t (outline g) (local_of g) (compared g) v.sort qs ++ row_words m within (outline g) v.sort 0 qs)
      h (λ e. (refl, (ap text_fold (finals-text d n m names (final l.sort) (final v.sort) e), tt)))
      (λ x y c.
      let o : outline f ≡ outline g = outline-is (outline f) (outline g) c.first in
      let k = node-paired R (is_hole a f l) (is_hole b g v) f g (all_locals inside ps) (all_locals within qs) x y c.first paired in
      let w = and_parts (same_field (names_field (outline f)) (field_name n.field_text s (outline f) ps) (field_name m.field_text t (outline g) qs)) (all_fields_agree n.field_text m.field_text inside within l.sort v.sort ps qs)
      (unless-hole (is_hole a f l) _ x fields) in
      let own = alike-own d n m R names sorts inside within z s t (outline f) (local_of f) (local_of g) (compared f) (compared g) l.sort v.sort ps qs k.0 c.second
      (subst (λ u. same_field (names_field (outline f)) (field_name n.field_text s (outline f) ps) (field_name m.field_text t u qs) ≡ true) (sym o) w.0) c.third k.1 in
      let rest = alike-row d n m R names sorts inside within (outline f) l.sort v.sort 0 ps qs c.third w.1 k.1 in
      subst (λ u. AreAlike R (own_words n inside z s (outline f) (local_of f) (compared f) l.sort ps ++ row_words n inside (outline f) l.sort 0 ps) (own_words m within z t u (local_of g) (compared g) v.sort qs ++ row_words m within u v.sort 0 qs)) o
      (alike-append R (own_words n inside z s (outline f) (local_of f) (compared f) l.sort ps) (own_words m within z t (outline f) (local_of g) (compared g) v.sort qs)
      (row_words n inside (outline f) l.sort 0 ps) (row_words m within (outline f) v.sort 0 qs) own rest))

  alike-row : {T : Type 0} (d : T → T → Bool) (n m : Naming T) (R : ℕ → ℕ → Bool) → NamesAgree d n m → LocalsAgree d n m R → (a b : Bool) (o : Outline) (s t : Sort T) (k : ℕ) (ps qs : Typeds T) → all_agree d a b ps qs ≡ true →
      all_fields_agree n.field_text m.field_text a b s t ps qs ≡ true → Paired R (all_locals a ps) (all_locals b qs) → AreAlike R (row_words n a o s k ps) (row_words m b o t k qs)
  alike-row d n m R names sorts a b o s t k none none h fields paired = alike-lengths R o k 0 0 refl
  alike-row d n m R names sorts a b o s t k none (more q qs) h fields paired = cc
  alike-row d n m R names sorts a b o s t k none (skip qs) h fields paired = cc
  alike-row d n m R names sorts a b o s t k (more p ps) none h fields paired = cc
  alike-row d n m R names sorts a b o s t k (more p ps) (more q qs) h fields paired =
      let e = and_parts (agree d a b p q) (all_agree d a b ps qs) h in
      let w = and_parts (fields_agree n.field_text m.field_text a b s t p q) (all_fields_agree n.field_text m.field_text a b s t ps qs) fields in
      let u = part-paired d R a b p q ps qs e.0 paired in
      alike-append R _ _ (row_words n a o s (suc k) ps) (row_words m b o t (suc k) qs)
      (alike-append R (lengths_at o k (suc (row_length ps))) (lengths_at o k (suc (row_length qs))) (words n a (is_defined o k) s p) (words m b (is_defined o k) t q)
      (alike-lengths R o k (suc (row_length ps)) (suc (row_length qs)) (ap suc (row-lengths d a b ps qs e.1)))
      (alike-words d n m R names sorts a b (is_defined o k) s t p q e.0 w.0 u.0))
      (alike-row d n m R names sorts a b o s t (suc k) ps qs e.1 w.1 u.1)
  alike-row d n m R names sorts a b o s t k (more p ps) (skip qs) h fields paired = cc
  alike-row d n m R names sorts a b o s t k (skip ps) none h fields paired = cc
  alike-row d n m R names sorts a b o s t k (skip ps) (more q qs) h fields paired = cc
  alike-row d n m R names sorts a b o s t k (skip ps) (skip qs) h fields paired =
      alike-append R (lengths_at o k (suc (row_length ps))) (lengths_at o k (suc (row_length qs))) (number 0 ∷ row_words n a o s (suc k) ps) (number 0 ∷ row_words m b o t (suc k) qs)
      (alike-lengths R o k (suc (row_length ps)) (suc (row_length qs)) (ap suc (row-lengths d a b ps qs h)))
      (refl, alike-row d n m R names sorts a b o s t (suc k) ps qs h fields paired)

pub alike-window : {T : Type 0} (d : T → T → Bool) (n m : Naming T) (R : ℕ → ℕ → Bool) → NamesAgree d n m → LocalsAgree d n m R → (ps qs : Typeds T) → all_agree d false false ps qs ≡ true →
    all_fields_agree n.field_text m.field_text false false Nothing Nothing ps qs ≡ true → Paired R (all_locals false ps) (all_locals false qs) → AreAlike R (window_words n ps) (window_words m qs)
alike-window d n m R names sorts none none h fields paired = tt
alike-window d n m R names sorts none (more q qs) h fields paired = cc
alike-window d n m R names sorts none (skip qs) h fields paired = cc
alike-window d n m R names sorts (more p ps) none h fields paired = cc
alike-window d n m R names sorts (more p ps) (more q qs) h fields paired =
    let e = and_parts (agree d false false p q) (all_agree d false false ps qs) h in
    let w = and_parts (fields_agree n.field_text m.field_text false false Nothing Nothing p q) (all_fields_agree n.field_text m.field_text false false Nothing Nothing ps qs) fields in
    let u = part-paired d R false false p q ps qs e.0 paired in
    alike-append R (words n false false Nothing p) (words m false false Nothing q) (window_words n ps) (window_words m qs)
    (alike-words d n m R names sorts false false false Nothing Nothing p q e.0 w.0 u.0) (alike-window d n m R names sorts ps qs e.1 w.1 u.1)
alike-window d n m R names sorts (more p ps) (skip qs) h fields paired = cc
alike-window d n m R names sorts (skip ps) none h fields paired = cc
alike-window d n m R names sorts (skip ps) (more q qs) h fields paired = cc
alike-window d n m R names sorts (skip ps) (skip qs) h fields paired = alike-window d n m R names sorts ps qs h fields paired
