-- The words of rows of parts, part by part.
use Rattle.std.proofs.Common.{◌≡◌, ◌∙◌, ℕ, zero, suc, ◌+◌, ◌-◌, ◌<◌, ◌≤◌, Bool, true, false, List, [], ◌∷◌, ◌++◌, length, drop, take, get_or, Option, Some, None, refl, sym, ap, arith, append_assoc, length-append, length-drop}
use Rattle.std.specs.Prelude.{if◌then◌else◌, slice_get, Result, Ok, Err, OnOk}
use Rattle.std.proofs.lemmas.Bool.{and_parts}
use Rattle.go_typed.specs.declared.node.TypedNode.{TypedNode, out-TypedNode}
use Rattle.go_typed.specs.Forms.{local_of}
use Rattle.go_typed.specs.Funcs.{size, sizes}
use Rattle.go_typed.specs.Packages.{is_below}
use Rattle.go_typed.specs.Trees.{Sort, every}
use Rattle.go_typed.specs.Views.{label_at, sort_view, view, views}
use Rattle.clone_window.specs.declared.outline.Outline.{Outline}
use Rattle.clone_window.specs.Kinds.{outline}
use Rattle.clone_window.specs.Masses.{is_hole, is_inside}
use Rattle.clone_window.specs.Sameness.{compared}
use Rattle.clone_window.proofs.Public.{view_out, views-at}
use Rattle.alpha_hash_defs.specs.Naming.{Naming}
use Rattle.alpha_hash_defs.specs.Words.{Word, number, all_declared, hole_words, is_defined, lengths_at, own_words, row_length, row_words, window_words, words}
use Rattle.alpha_hash.specs.declared.names.Names.{Names}
use Rattle.alpha_hash.specs.declared.word.Word as decl
use Rattle.alpha_hash.specs.Shown.{knows, knows_part, knows_parts, knows_sort, naming, part_declared, part_words, shown, word_view}
use Rattle.alpha_hash.specs.Starts.{ends_from, statement_words}

parts-count : (ps : List (Option TypedNode)) → row_length (views ps) ≡ length ps
parts-count [] = refl
parts-count (None ∷ ps) = ap suc (parts-count ps)
parts-count (Some p ∷ ps) = ap suc (parts-count ps)

-- the words of a row that begins with a part
row-begins : (n : Names) (inside : Bool) (o : Outline) (owner : Sort ℕ) (k : ℕ) (part : Option TypedNode) (ps : List (Option TypedNode)) →
    row_words (naming n) inside o owner k (views (part ∷ ps))
    ≡ lengths_at o k (suc (length ps)) ++ part_words n inside (is_defined o k) owner part ++ row_words (naming n) inside o owner (suc k) (views ps)
row-begins n inside o owner k None ps =
    ap (λ m. lengths_at o k (suc m) ++ number 0 ∷ row_words (naming n) inside o owner (suc k) (views ps)) (parts-count ps)
    ∙ sym (append_assoc (lengths_at o k (suc (length ps))) (number 0 ∷ []) (row_words (naming n) inside o owner (suc k) (views ps)))
row-begins n inside o owner k (Some p) ps = ap (λ m. lengths_at o k (suc m) ++ part_words n inside (is_defined o k) owner (Some p) ++ row_words (naming n) inside o owner (suc k) (views ps)) (parts-count ps)

known-begins : (n : Names) (part : Option TypedNode) (ps : List (Option TypedNode)) → knows_parts n (views (part ∷ ps)) ≡ true → (knows_part n part ≡ true) × (knows_parts n (views ps) ≡ true)
known-begins n None ps h = (refl, h)
known-begins n (Some p) ps h = and_parts (every (is_below (length n.checked.now.types.shapes)) (view p)) (knows_parts n (views ps)) h

-- What is left to do of a row: the words to come make all, and all their types are known.
pub record RowLeft (n : Names) (inside : Bool) (o : Outline) (owner : Sort ℕ) (parts : List (Option TypedNode)) (i k : ℕ) (old out : List Word) : Type 0 where
  pub place : k ≡ i
  pub known : knows_parts n (views (drop i parts)) ≡ true
  pub words_left : old ++ row_words (naming n) inside o owner 0 (views parts) ≡ out ++ row_words (naming n) inside o owner k (views (drop i parts))

pub row-known : (n : Names) (parts : List (Option TypedNode)) (i : ℕ) (part : Option TypedNode) → i < length parts → part ≡ get_or parts i part → knows_parts n (views (drop i parts)) ≡ true →
    (knows_part n part ≡ true) × (knows_parts n (views (drop (i + 1) parts)) ≡ true)
row-known n parts i part l e h = known-begins n part (drop (i + 1) parts) (sym (ap (knows_parts n) (views-at parts i part l e)) ∙ h)

pub row-more : (n : Names) (inside : Bool) (o : Outline) (owner : Sort ℕ) (parts : List (Option TypedNode)) (i k k' count : ℕ) (old out mid out' : List Word) (part : Option TypedNode) →
    i < length parts → part ≡ get_or parts i part → RowLeft n inside o owner parts i k old out → count ≡ length parts - k → k' ≡ k + 1 →
    mid ≡ out ++ lengths_at o k count → out' ≡ mid ++ part_words n inside (is_defined o k) owner part → RowLeft n inside o owner parts (i + 1) k' old out'
row-more n inside o owner parts i k k' count old out mid out' part l e h ce ke me oe =
    let rest = drop (i + 1) parts in
    let many : suc (length rest) ≡ count = omega (arith, ce, h.place, length-drop (i + 1) parts, l) in
    let next : suc k ≡ k' = omega (arith, ke) in
    let begins : row_words (naming n) inside o owner k (views (drop i parts)) ≡ lengths_at o k count ++ part_words n inside (is_defined o k) owner part ++ row_words (naming n) inside o owner k' (views rest) =
    ap (row_words (naming n) inside o owner k) (views-at parts i part l e)
    ∙ row-begins n inside o owner k part rest
    ∙ ap (λ m. lengths_at o k m ++ part_words n inside (is_defined o k) owner part ++ row_words (naming n) inside o owner (suc k) (views rest)) many
    ∙ ap (λ m. lengths_at o k count ++ part_words n inside (is_defined o k) owner part ++ row_words (naming n) inside o owner m (views rest)) next in
    record {
      place = omega (arith, h.place, ke);
      known = (row-known n parts i part l e h.known).1;
      words_left =
          h.words_left
          ∙ ap (λ ws. out ++ ws) begins
          ∙ sym (append_assoc out (lengths_at o k count ++ part_words n inside (is_defined o k) owner part) (row_words (naming n) inside o owner k' (views rest)))
          ∙ ap (λ ws. ws ++ row_words (naming n) inside o owner k' (views rest))
          (sym (append_assoc out (lengths_at o k count) (part_words n inside (is_defined o k) owner part)) ∙ ap (λ ws. ws ++ part_words n inside (is_defined o k) owner part) (sym me) ∙ sym oe);
    }

-- ---- other rows

declared-begins : (n : Names) (inside : Bool) (part : Option TypedNode) (ps : List (Option TypedNode)) →
    all_declared (naming n) inside (views (part ∷ ps)) ≡ part_declared n inside part ++ all_declared (naming n) inside (views ps)
declared-begins n inside None ps = refl
declared-begins n inside (Some p) ps = refl

pub declared-more : (n : Names) (inside : Bool) (parts : List (Option TypedNode)) (i : ℕ) (all out out' : List Word) (part : Option TypedNode) → i < length parts → part ≡ get_or parts i part →
    all ≡ out ++ all_declared (naming n) inside (views (drop i parts)) → out' ≡ out ++ part_declared n inside part → all ≡ out' ++ all_declared (naming n) inside (views (drop (i + 1) parts))
declared-more n inside parts i all out out' part l e h oe =
    let rest = drop (i + 1) parts in
    h
    ∙ ap (λ ps. out ++ all_declared (naming n) inside ps) (views-at parts i part l e)
    ∙ ap (λ ws. out ++ ws) (declared-begins n inside part rest)
    ∙ sym (append_assoc out (part_declared n inside part) (all_declared (naming n) inside (views rest)))
    ∙ ap (λ ws. ws ++ all_declared (naming n) inside (views rest)) (sym oe)

statement-begins : (n : Names) (part : Option TypedNode) (ps : List (Option TypedNode)) → window_words (naming n) (views (part ∷ ps)) ≡ statement_words (naming n) part ++ window_words (naming n) (views ps)
statement-begins n None ps = refl
statement-begins n (Some p) ps = refl

pub statements-more : (n : Names) (parts : List (Option TypedNode)) (i : ℕ) (all out out' : List Word) (part : Option TypedNode) → i < length parts → part ≡ get_or parts i part →
    all ≡ out ++ window_words (naming n) (views (drop i parts)) → out' ≡ out ++ statement_words (naming n) part → all ≡ out' ++ window_words (naming n) (views (drop (i + 1) parts))
statements-more n parts i all out out' part l e h oe =
    let rest = drop (i + 1) parts in
    h
    ∙ ap (λ ps. out ++ window_words (naming n) ps) (views-at parts i part l e)
    ∙ ap (λ ws. out ++ ws) (statement-begins n part rest)
    ∙ sym (append_assoc out (statement_words (naming n) part) (window_words (naming n) (views rest)))
    ∙ ap (λ ws. ws ++ window_words (naming n) (views rest)) (sym oe)

ends-begin : (n : Naming ℕ) (m : ℕ) (part : Option TypedNode) (ps : List (Option TypedNode)) → ends_from n m (views (part ∷ ps)) ≡ m ∷ ends_from n (m + length (statement_words n part)) (views ps)
ends-begin n m None ps = let e : m ≡ m + 0 = omega arith in ap (λ k. m ∷ ends_from n k (views ps)) e
ends-begin n m (Some p) ps = refl

-- how many words there are, whatever they show
pub shown-count : (ws : List decl.Word) → length (shown ws) ≡ length ws
shown-count [] = refl
shown-count (w ∷ ws) = ap suc (shown-count ws)

shown-taken : (k : ℕ) (ws : List decl.Word) → shown (take k ws) ≡ take k (shown ws)
shown-taken zero [] = refl
shown-taken zero (w ∷ ws) = refl
shown-taken (suc k) [] = refl
shown-taken (suc k) (w ∷ ws) = ap (λ vs. word_view w ∷ vs) (shown-taken k ws)

-- what words at some places show
pub shown-between : (a k : ℕ) (ws : List decl.Word) → shown (take k (drop a ws)) ≡ take k (drop a (shown ws))
shown-between zero k [] = shown-taken k []
shown-between zero k (w ∷ ws) = shown-taken k (w ∷ ws)
shown-between (suc a) k [] = shown-taken k []
shown-between (suc a) k (w ∷ ws) = shown-between a k ws

pub ends-more : (n : Names) (parts : List (Option TypedNode)) (i : ℕ) (all ends ends' : List ℕ) (out out' : List decl.Word) (part : Option TypedNode) → i < length parts → part ≡ get_or parts i part →
    all ≡ ends ++ ends_from (naming n) (length out) (views (drop i parts)) → ends' ≡ ends ++ length out ∷ [] → shown out' ≡ shown out ++ statement_words (naming n) part →
    all ≡ ends' ++ ends_from (naming n) (length out') (views (drop (i + 1) parts))
ends-more n parts i all ends ends' out out' part l e h ee oe =
    let rest = drop (i + 1) parts in
    let long : length out + length (statement_words (naming n) part) ≡ length out' =
    omega (arith, shown-count out, shown-count out', ap length oe, length-append (shown out) (statement_words (naming n) part)) in
    h
    ∙ ap (λ ps. ends ++ ends_from (naming n) (length out) ps) (views-at parts i part l e)
    ∙ ap (λ es. ends ++ es) (ends-begin (naming n) (length out) part rest)
    ∙ sym (append_assoc ends (length out ∷ []) (ends_from (naming n) (length out + length (statement_words (naming n) part)) (views rest)))
    ∙ ap (λ es. es ++ ends_from (naming n) (length out + length (statement_words (naming n) part)) (views rest)) (sym ee)
    ∙ ap (λ m. ends' ++ ends_from (naming n) m (views rest)) long

-- ---- a node by its fields

pub opened-words : (n : Names) (inside defined : Bool) (owner : Sort ℕ) (x : TypedNode) → is_hole inside (out-TypedNode x).form (label_at (out-TypedNode x)) ≡ false →
    words (naming n) inside defined owner (view x)
    ≡ own_words (naming n) (is_inside inside (out-TypedNode x).form (label_at (out-TypedNode x))) defined owner (outline (out-TypedNode x).form) (local_of (out-TypedNode x).form) (compared (out-TypedNode x).form)
    (sort_view (out-TypedNode x).sort) (views (out-TypedNode x).parts.items)
    ++ row_words (naming n) (is_inside inside (out-TypedNode x).form (label_at (out-TypedNode x))) (outline (out-TypedNode x).form) (sort_view (out-TypedNode x).sort) 0 (views (out-TypedNode x).parts.items)
opened-words n inside defined owner x e =
    let y = out-TypedNode x in
    let within = is_inside inside y.form (label_at y) in
    ap (words (naming n) inside defined owner) (view_out x)
    ∙ ap (λ b. if b then hole_words (naming n) (sort_view y.sort) else
    own_words (naming n) within defined owner (outline y.form) (local_of y.form) (compared y.form) (sort_view y.sort) (views y.parts.items)
    ++ row_words (naming n) within (outline y.form) (sort_view y.sort) 0 (views y.parts.items)) e

-- the words of a node one after the other
pub own-joined : (old k o l b f c d s r : List Word) →
    (old ++ k ++ o ++ l ++ b ++ f ++ c ++ d ++ s) ++ r ≡ old ++ ((k ++ o ++ l ++ b ++ f ++ c ++ d ++ s) ++ r)
own-joined old k o l b f c d s r = simp append_assoc refl

pub word-at : (ws : List decl.Word) (i : ℕ) (d : decl.Word) → i < length ws → slice_get (shown ws) i ≡ Some (word_view (get_or ws i d))
word-at [] i d l = absurd (omega (arith, l))
word-at (w ∷ ws) zero d l = refl
word-at (w ∷ ws) (suc i) d l = word-at ws i d (omega (arith, l))

pub weaker-ok : {A E P Q : Type 0} → (r : Result A E) → (P → Q) → OnOk r P → OnOk r Q
weaker-ok (Ok a) f h = f h
weaker-ok (Err e) f h = tt

-- ---- sizes

abbrev pub part-size : Option TypedNode → ℕ
part-size None = 0
part-size (Some p) = size (view p)

pub part-small : (parts : List (Option TypedNode)) (i : ℕ) (part : Option TypedNode) → i < length parts → part ≡ get_or parts i part → part-size part ≤ sizes (views parts)
part-small [] i part l e = absurd (omega (arith, l))
part-small (None ∷ ps) zero part l e = let h : part-size part ≡ 0 = ap part-size e in omega (arith, h)
part-small (Some p ∷ ps) zero part l e = let h : part-size part ≡ size (view p) = ap part-size e in omega (arith, h)
part-small (None ∷ ps) (suc i) part l e = part-small ps i part (omega (arith, l)) e
part-small (Some p ∷ ps) (suc i) part l e = let h = part-small ps i part (omega (arith, l)) e in omega (arith, h)

pub opened-size : (x : TypedNode) → size (view x) ≡ suc (sizes (views (out-TypedNode x).parts.items))
opened-size x = ap size (view_out x)

pub record KnownOpen (n : Names) (x : TypedNode) : Type 0 where
  pub sort : knows_sort n (sort_view (out-TypedNode x).sort) ≡ true
  pub parts : knows_parts n (views (out-TypedNode x).parts.items) ≡ true

pub opened-known : (n : Names) (x : TypedNode) → knows n (view x) ≡ true → KnownOpen n x
opened-known n x h =
    let y = out-TypedNode x in
    let p = and_parts (knows_sort n (sort_view y.sort)) (knows_parts n (views y.parts.items)) (sym (ap (knows n) (view_out x)) ∙ h) in
    record { sort = p.0; parts = p.1 }
