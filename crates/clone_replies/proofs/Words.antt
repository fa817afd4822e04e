-- The words of windows are the same over other words for types, where types have the same texts and fields the same names.
use Rattle.std.proofs.Common.{◌≡◌, ◌∙◌, ℕ, suc, Bool, false, List, [], ◌∷◌, ◌++◌, Option, Some, None, refl, ap}
use Rattle.std.specs.Prelude.{if◌then◌else◌, nat_eq}
use Rattle.go_typed.specs.Forms.{local_of}
use Rattle.go_typed.specs.Trees.{Sort, Nothing, Typed, typed, Typeds, none, more, skip, sort_mapped, label_mapped, mapped, all_mapped}
use Rattle.clone_window.specs.declared.outline.Outline.{Outline}
use Rattle.clone_window.specs.Kinds.{outline}
use Rattle.clone_window.specs.Masses.{is_hole, is_inside}
use Rattle.clone_window.specs.Sameness.{Final, of_type, of_kind, of_none, final, value_of, Compared, by_form, by_sort, by_literal, compared}
use Rattle.clone_replies.proofs.Mapped.{hole-mapped, inside-mapped}
use Rattle.clone_replies.proofs.Fields.{field-name, final_mapped, final-mapped}
use Rattle.clone_replies.proofs.Tested.{value-mapped}
use Rattle.clone_window.specs.Fields.{names_field}
use Rattle.alpha_hash_defs.specs.Hash.{text_fold}
use Rattle.alpha_hash_defs.specs.Naming.{Naming, final_text}
use Rattle.alpha_hash_defs.specs.Numbers.{hash, words_hash}
use Rattle.alpha_hash_defs.specs.Words.{Word, number, one_if, row_length, lengths_at, kind_words, operator_words, local_words, object_words, field_words, value_text, compared_words, defined_words, constant_words, blank_words, name_words, declared_words, all_declared, constants_words, own_words, hole_words, is_defined, words, row_words, window_words}

-- The second names types by the first's texts, and its fields, objects and locals as the first does.
pub record Matches {T U : Type 0} (g : T → U) (n : Naming T) (m : Naming U) : Type 0 where
  pub types : (t : T) → m.type_text (g t) ≡ n.type_text t
  pub objects : (o : Outline) → m.object_text o ≡ n.object_text o
  pub fields : (t : T) (k : ℕ) → m.field_text (g t) k ≡ n.field_text t k
  pub locals : (l : ℕ) → m.local_sort l ≡ sort_mapped g (n.local_sort l)

module _ {T U : Type 0} (g : T → U) (n : Naming T) (m : Naming U) (h : Matches g n m) where
  final-text : (x : Final T) → final_text m (final_mapped g x) ≡ final_text n x
  final-text (of_type t) = h.types t
  final-text (of_kind k) = refl
  final-text of_none = refl

  sort-text : (s : Sort T) → final_text m (final (sort_mapped g s)) ≡ final_text n (final s)
  sort-text s = ap (final_text m) (final-mapped g s) ∙ final-text (final s)

  field-words : (owner : Sort T) (o : Outline) (ps : Typeds T) → field_words m (sort_mapped g owner) o (all_mapped g ps) ≡ field_words n owner o ps
  field-words owner o ps = ap (λ t. one_if (names_field o) (text_fold t)) (field-name g n.field_text m.field_text h.fields owner o ps)

  object-words : (o : Outline) → object_words m o ≡ object_words n o
  object-words o = ap (λ t. one_if (nat_eq o.kind 32) (text_fold t)) (h.objects o)

  compared-words : (c : Compared) (o : Outline) (s : Sort T) → compared_words m c o (sort_mapped g s) ≡ compared_words n c o s
  compared-words by_form o s = refl
  compared-words by_sort o s = ap (λ t. one_if (nat_eq o.kind 52) (text_fold t)) (sort-text s)
  compared-words by_literal o s = ap (λ c. number (text_fold (value_text c)) ∷ []) (value-mapped g s)

  constant-words : (s : Sort T) → constant_words m (sort_mapped g s) ≡ constant_words n s
  constant-words s =
      ap (λ t. number (text_fold t) ∷ number (text_fold (value_text (value_of (sort_mapped g s)))) ∷ []) (sort-text s)
      ∙ ap (λ c. number (text_fold (final_text n (final s))) ∷ number (text_fold (value_text c)) ∷ []) (value-mapped g s)

  blank-words : (c : Compared) (s : Sort T) → blank_words m c (sort_mapped g s) ≡ blank_words n c s
  blank-words by_form s = refl
  blank-words by_sort s = constant-words s
  blank-words by_literal s = refl

  name-words : (l : Option ℕ) (c : Compared) (s : Sort T) → name_words m l c (sort_mapped g s) ≡ name_words n l c s
  name-words None c s = blank-words c s
  name-words (Some l) c s = ap (constant_words m) (h.locals l) ∙ constant-words (n.local_sort l)

  declared-words : (a : Bool) (p : Typed T) → declared_words m a (mapped g p) ≡ declared_words n a p
  declared-words a (typed f i j l ps) =
      ap (λ b. if b then [] else name_words m (local_of f) (compared f) (sort_mapped g l.sort)) (hole-mapped g a f l)
      ∙ ap (λ ws. if is_hole a f l then [] else ws) (name-words (local_of f) (compared f) l.sort)

  all-declared : (a : Bool) (ps : Typeds T) → all_declared m a (all_mapped g ps) ≡ all_declared n a ps
  all-declared a none = refl
  all-declared a (more p ps) = ap (λ ws. ws ++ all_declared m a (all_mapped g ps)) (declared-words a p) ∙ ap (λ ws. declared_words n a p ++ ws) (all-declared a ps)
  all-declared a (skip ps) = all-declared a ps

  constants-words : (a : Bool) (o : Outline) (ps : Typeds T) → constants_words m a o (all_mapped g ps) ≡ constants_words n a o ps
  constants-words a o ps = ap (λ ws. if nat_eq o.kind 8 then ws else []) (all-declared a ps)

  -- the words of a node, of which four parts look at types
  abbrev put-together : Bool → Outline → Option ℕ → List Word → List Word → List Word → List Word → List Word
  put-together d o local os fs cs ks = kind_words o ++ operator_words o ++ local_words local ++ os ++ fs ++ cs ++ defined_words d o ++ ks

  own-same : (a d : Bool) (owner : Sort T) (o : Outline) (local : Option ℕ) (c : Compared) (s : Sort T) (ps : Typeds T) →
      own_words m a d (sort_mapped g owner) o local c (sort_mapped g s) (all_mapped g ps) ≡ own_words n a d owner o local c s ps
  own-same a d owner o local c s ps =
      ap (λ ws. put-together d o local ws (field_words m (sort_mapped g owner) o (all_mapped g ps)) (compared_words m c o (sort_mapped g s)) (constants_words m a o (all_mapped g ps))) (object-words o)
      ∙ ap (λ ws. put-together d o local (object_words n o) ws (compared_words m c o (sort_mapped g s)) (constants_words m a o (all_mapped g ps))) (field-words owner o ps)
      ∙ ap (λ ws. put-together d o local (object_words n o) (field_words n owner o ps) ws (constants_words m a o (all_mapped g ps))) (compared-words c o s)
      ∙ ap (λ ws. put-together d o local (object_words n o) (field_words n owner o ps) (compared_words n c o s) ws) (constants-words a o ps)

  hole-words : (s : Sort T) → hole_words m (sort_mapped g s) ≡ hole_words n s
  hole-words s = ap (λ t. number 30 ∷ number (text_fold t) ∷ []) (sort-text s)

  lengths : (ps : Typeds T) → row_length (all_mapped g ps) ≡ row_length ps
  lengths none = refl
  lengths (more p ps) = ap suc (lengths ps)
  lengths (skip ps) = ap suc (lengths ps)

  mutual
    words-same : (a d : Bool) (owner : Sort T) (x : Typed T) → words m a d (sort_mapped g owner) (mapped g x) ≡ words n a d owner x
    words-same a d owner (typed f i j l ps) =
        let b = is_inside a f l in
        let e = is_inside a f (label_mapped g l) in
        let s = sort_mapped g l.sort in
        let qs = all_mapped g ps in
        ap (λ t. if t then hole_words m s else own_words m e d (sort_mapped g owner) (outline f) (local_of f) (compared f) s qs ++ row_words m e (outline f) s 0 qs) (hole-mapped g a f l)
        ∙ ap (λ ws. if is_hole a f l then ws else own_words m e d (sort_mapped g owner) (outline f) (local_of f) (compared f) s qs ++ row_words m e (outline f) s 0 qs) (hole-words l.sort)
        ∙ ap (λ t. if is_hole a f l then hole_words n l.sort else own_words m t d (sort_mapped g owner) (outline f) (local_of f) (compared f) s qs ++ row_words m t (outline f) s 0 qs) (inside-mapped g a f l)
        ∙ ap (λ ws. if is_hole a f l then hole_words n l.sort else ws ++ row_words m b (outline f) s 0 qs) (own-same b d owner (outline f) (local_of f) (compared f) l.sort ps)
        ∙ ap (λ ws. if is_hole a f l then hole_words n l.sort else own_words n b d owner (outline f) (local_of f) (compared f) l.sort ps ++ ws) (rows-same b (outline f) l.sort 0 ps)

    rows-same : (a : Bool) (o : Outline) (owner : Sort T) (k : ℕ) (ps : Typeds T) → row_words m a o (sort_mapped g owner) k (all_mapped g ps) ≡ row_words n a o owner k ps
    rows-same a o owner k none = refl
    rows-same a o owner k (more p ps) =
        ap (λ c. lengths_at o k (suc c) ++ words m a (is_defined o k) (sort_mapped g owner) (mapped g p) ++ row_words m a o (sort_mapped g owner) (suc k) (all_mapped g ps)) (lengths ps)
        ∙ ap (λ ws. lengths_at o k (suc (row_length ps)) ++ ws ++ row_words m a o (sort_mapped g owner) (suc k) (all_mapped g ps)) (words-same a (is_defined o k) owner p)
        ∙ ap (λ ws. lengths_at o k (suc (row_length ps)) ++ words n a (is_defined o k) owner p ++ ws) (rows-same a o owner (suc k) ps)
    rows-same a o owner k (skip ps) =
        ap (λ c. lengths_at o k (suc c) ++ number 0 ∷ row_words m a o (sort_mapped g owner) (suc k) (all_mapped g ps)) (lengths ps)
        ∙ ap (λ ws. lengths_at o k (suc (row_length ps)) ++ number 0 ∷ ws) (rows-same a o owner (suc k) ps)

  window-same : (ps : Typeds T) → window_words m (all_mapped g ps) ≡ window_words n ps
  window-same none = refl
  window-same (more p ps) = ap (λ ws. ws ++ window_words m (all_mapped g ps)) (words-same false false Nothing p) ∙ ap (λ ws. words n false false Nothing p ++ ws) (window-same ps)
  window-same (skip ps) = window-same ps

  pub hash-same : (ps : Typeds T) → hash m (all_mapped g ps) ≡ hash n ps
  hash-same ps = ap words_hash (window-same ps)
