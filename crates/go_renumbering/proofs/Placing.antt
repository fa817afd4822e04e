-- Right sides that are given to local types, with other numbers of declared types.
use Rattle.std.proofs.Common.{◌≡◌, ◌∙◌, ℕ, zero, suc, Bool, true, false, [], ◌∷◌, Option, Some, None, refl, sym, ap, subst}
use Rattle.std.specs.Prelude.{nat_eq}
use Rattle.std.specs.Option.{option_map}
use Rattle.std.proofs.lemmas.Bool.{eqb-true, eq-eqb}
use Rattle.go_types.specs.Trees.{TypeTree}
use Rattle.go_types.specs.Relations.{Rights}
use Rattle.go_types_relations.specs.Questions.{entry}
use Rattle.go_types_relations.specs.Renaming.{IsOneToOne, AreRenamed}
use Rattle.go_stmts_defs.specs.Frames.{Frame, placed, with_own_right}
use Rattle.go_renumbering.proofs.Sorts.{maybe}
use Rattle.go_renumbering.specs.Frames.{has_place, RenamedFrames}

placed_place : (n : ℕ) (x : Option TypeTree) (xs : Rights) (m : ℕ) → has_place (placed n x xs) m ≡ has_place xs m
placed_place n x [] m = refl
placed_place zero x (y ∷ ys) zero = refl
placed_place zero x (y ∷ ys) (suc m) = refl
placed_place (suc n) x (y ∷ ys) zero = refl
placed_place (suc n) x (y ∷ ys) (suc m) = placed_place n x ys m

placed_here : (n : ℕ) (x : Option TypeTree) (xs : Rights) → has_place xs n ≡ true → entry (placed n x xs) n ≡ x
placed_here n x [] e = cc
placed_here zero x (y ∷ ys) e = refl
placed_here (suc n) x (y ∷ ys) e = placed_here n x ys e

placed_nowhere : (n : ℕ) (x : Option TypeTree) (xs : Rights) → has_place xs n ≡ false → placed n x xs ≡ xs
placed_nowhere n x [] e = refl
placed_nowhere zero x (y ∷ ys) e = cc
placed_nowhere (suc n) x (y ∷ ys) e = ap (λ zs. y ∷ zs) (placed_nowhere n x ys e)

placed_other : (n m : ℕ) (x : Option TypeTree) (xs : Rights) → (n ≡ m → ⊥) → entry (placed n x xs) m ≡ entry xs m
placed_other n m x [] e = refl
placed_other zero zero x (y ∷ ys) e = absurd (e refl)
placed_other zero (suc m) x (y ∷ ys) e = refl
placed_other (suc n) zero x (y ∷ ys) e = refl
placed_other (suc n) (suc m) x (y ∷ ys) e = placed_other n m x ys (λ h. e (ap suc h))

different : (n m : ℕ) → nat_eq n m ≡ false → n ≡ m → ⊥
different n m h k = let e = eq-eqb n m k in cc

module _ (name : ℕ → ℕ) (one : IsOneToOne name) (old new : Rights) (same : AreRenamed name old new) where
  right_placed : (n : ℕ) (t : Option TypeTree) (b : Bool) → has_place old n ≡ b → has_place new (name n) ≡ b → AreRenamed name (placed n t old) (placed (name n) (maybe name t) new)
  right_placed n t false e f m = ap (λ xs. entry xs (name m)) (placed_nowhere (name n) (maybe name t) new f) ∙ same m ∙ ap (λ xs. maybe name (entry xs m)) (sym (placed_nowhere n t old e))
  right_placed n t true e f m = by (nat_eq n m) refl
    where
      by : (b : Bool) → nat_eq n m ≡ b → entry (placed (name n) (maybe name t) new) (name m) ≡ maybe name (entry (placed n t old) m)
      by true h =
          let k = eqb-true n m h in
          ap (λ z. entry (placed (name n) (maybe name t) new) (name z)) (sym k) ∙ placed_here (name n) (maybe name t) new f
          ∙ ap (maybe name) (sym (placed_here n t old e)) ∙ ap (λ z. maybe name (entry (placed n t old) z)) k
      by false h =
          let apart : n ≡ m → ⊥ = different n m h in
          placed_other (name n) (name m) (maybe name t) new (λ k. apart (one n m k)) ∙ same m ∙ ap (maybe name) (sym (placed_other n m t old apart))

module _ (name : ℕ → ℕ) (f g : Frame) (c : RenamedFrames name f g) where
  own_right : (n : ℕ) (t : Option TypeTree) → RenamedFrames name (with_own_right (Some (f.types n)) t f) (with_own_right (Some (name (f.types n))) (maybe name t) g)
  own_right n t = record {
    one_to_one = c.one_to_one;
    rights = right_placed name c.one_to_one f.around.rights g.around.rights c.rights (f.types n) t (has_place f.around.rights (f.types n)) refl (c.room n);
    room = λ m. placed_place (name (f.types n)) (maybe name t) g.around.rights (name (f.types m)) ∙ c.room m ∙ sym (placed_place (f.types n) t f.around.rights (f.types m));
    iota = c.iota;
    texts = c.texts;
    characters = c.characters;
    objects = c.objects;
    sorts = c.sorts;
    referents = c.referents;
    needed = c.needed;
    limits = c.limits;
    locals = c.locals;
    types = c.types;
    source = c.source;
    tag = c.tag;
    results = c.results;
  }

  pub own_right_renamed : (o : Option ℕ) (t : Option TypeTree) → RenamedFrames name (with_own_right (option_map f.types o) t f) (with_own_right (option_map g.types o) (maybe name t) g)
  own_right_renamed None t = c
  own_right_renamed (Some n) t = subst (λ k. RenamedFrames name (with_own_right (Some (f.types n)) t f) (with_own_right (Some k) (maybe name t) g)) (sym (c.types n)) (own_right n t)
