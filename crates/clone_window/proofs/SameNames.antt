-- Rows of parts that agree and name fields of the same names, part by part.
use Rattle.std.proofs.Common.{◌≡◌, ◌∙◌, ℕ, ◌+◌, ◌<◌, Bool, true, false, List, ◌∷◌, drop, length, get_or, Option, Some, None, refl, sym, ap, subst}
use Rattle.std.specs.Prelude.{◌&&◌, ◌||◌, nat_eq}
use Rattle.go_typed.specs.declared.form.Form.{Form}
use Rattle.go_typed.specs.declared.node.TypedNode.{TypedNode, out-TypedNode}
use Rattle.go_typed.specs.Trees.{Sort}
use Rattle.go_typed.specs.Views.{sort_view, view, views}
use Rattle.clone_window.specs.Fields.{FieldNames, field_name, fields_agree, all_fields_agree, names_field, same_field}
use Rattle.clone_window.specs.Kinds.{outline}
use Rattle.clone_window.specs.Sameness.{agree, agree_at, agree_besides, all_agree, compared, final, same_final, same_outline}
use Rattle.clone_window.proofs.Opened.{opened, view_out}
use Rattle.clone_window.proofs.Walks.{views-at}
use Rattle.clone_window.proofs.Agreement.{and-false, lengths-apart}
use Rattle.clone_window.proofs.FieldNames.{hole, inner, opened-fields, own, within}
use Rattle.clone_window.proofs.Settled.{and-mixed}
use Rattle.clone_window.specs.Named.{agree_named, all_named}

-- ---- rows

-- the rest of two rows begins with their next parts
next-named : (names : FieldNames ℕ) (a b : Bool) (s t : Sort ℕ) (xs ys : List (Option TypedNode)) (i : ℕ) (p q : Option TypedNode) →
    i < length xs → i < length ys → p ≡ get_or xs i p → q ≡ get_or ys i q →
    all_named names a b s t (views (drop i xs)) (views (drop i ys)) ≡ all_named names a b s t (views (p ∷ drop (i + 1) xs)) (views (q ∷ drop (i + 1) ys))
next-named names a b s t xs ys i p q h k e f =
    ap (λ r. all_named names a b s t r (views (drop i ys))) (views-at xs i p h e)
    ∙ ap (λ r. all_named names a b s t (views (p ∷ drop (i + 1) xs)) r) (views-at ys i q k f)

-- two parts that are there, and the rest behind them
next-both : (names : FieldNames ℕ) (a b : Bool) (s t : Sort ℕ) (xs ys : List (Option TypedNode)) (i j : ℕ) (p q : Option TypedNode) (x y : TypedNode) →
    i < length xs → length xs ≡ length ys → j ≡ i → p ≡ get_or xs i p → q ≡ get_or ys j q → p ≡ Some x → q ≡ Some y →
    all_named names a b s t (views (drop i xs)) (views (drop i ys)) ≡ (agree_named names a b s t (view x) (view y) && all_named names a b s t (views (drop (i + 1) xs)) (views (drop (i + 1) ys)))
next-both names a b s t xs ys i j p q x y h k l e f u v =
    next-named names a b s t xs ys i p q h (subst (λ n. i < n) k h) e (f ∙ ap (λ n. get_or ys n q) l)
    ∙ ap (λ r. all_named names a b s t (views (r ∷ drop (i + 1) xs)) (views (q ∷ drop (i + 1) ys))) u
    ∙ ap (λ r. all_named names a b s t (views (Some x ∷ drop (i + 1) xs)) (views (r ∷ drop (i + 1) ys))) v
    ∙ and-mixed (agree nat_eq a b (view x) (view y)) (all_agree nat_eq a b (views (drop (i + 1) xs)) (views (drop (i + 1) ys)))
    (fields_agree names names a b s t (view x) (view y)) (all_fields_agree names names a b s t (views (drop (i + 1) xs)) (views (drop (i + 1) ys)))

-- Parts that do so change nothing for the rest, and parts that don't decide.
pub rest-named : (names : FieldNames ℕ) (a b c : Bool) (s t : Sort ℕ) (xs ys : List (Option TypedNode)) (i j : ℕ) (p q : Option TypedNode) (x y : TypedNode) →
    i < length xs → length xs ≡ length ys → j ≡ i → p ≡ get_or xs i p → q ≡ get_or ys j q → p ≡ Some x → q ≡ Some y → agree_named names a b s t (view x) (view y) ≡ c →
    all_named names a b s t (views (drop i xs)) (views (drop i ys)) ≡ (c && all_named names a b s t (views (drop (i + 1) xs)) (views (drop (i + 1) ys)))
rest-named names a b c s t xs ys i j p q x y h k l e f u v g =
    next-both names a b s t xs ys i j p q x y h k l e f u v ∙ ap (λ d. d && all_named names a b s t (views (drop (i + 1) xs)) (views (drop (i + 1) ys))) g

-- Parts that are left out change nothing.
pub skip-named : (names : FieldNames ℕ) (a b : Bool) (s t : Sort ℕ) (xs ys : List (Option TypedNode)) (i j : ℕ) (p q : Option TypedNode) →
    i < length xs → length xs ≡ length ys → j ≡ i → p ≡ get_or xs i p → q ≡ get_or ys j q → p ≡ None → q ≡ None →
    all_named names a b s t (views (drop i xs)) (views (drop i ys)) ≡ all_named names a b s t (views (drop (i + 1) xs)) (views (drop (i + 1) ys))
skip-named names a b s t xs ys i j p q h k l e f u v =
    next-named names a b s t xs ys i p q h (subst (λ n. i < n) k h) e (f ∙ ap (λ n. get_or ys n q) l)
    ∙ ap (λ r. all_named names a b s t (views (r ∷ drop (i + 1) xs)) (views (q ∷ drop (i + 1) ys))) u
    ∙ ap (λ r. all_named names a b s t (views (None ∷ drop (i + 1) xs)) (views (r ∷ drop (i + 1) ys))) v

-- rows of different lengths don't agree
pub lengths-named : (names : FieldNames ℕ) (a b : Bool) (s t : Sort ℕ) (xs ys : List (Option TypedNode)) → (length xs ≡ length ys → ⊥) →
    all_named names a b s t (views xs) (views ys) ≡ false
lengths-named names a b s t xs ys h = ap (λ c. c && all_fields_agree names names a b s t (views xs) (views ys)) (lengths-apart a b xs ys h)

-- ---- nodes

-- two nodes by whether they are holes, by their types, by what they show and name themselves, and by their parts
abbrev pub named_at : Bool → Bool → Bool → Bool → Bool → Bool → Bool
named_at true true types shown names parts = types
named_at false false types shown names parts = shown && (names && parts)
named_at _ _ types shown names parts = false

abbrev pub types-agree : TypedNode → TypedNode → Bool
types-agree x y = same_final nat_eq (final (sort_view (out-TypedNode x).sort)) (final (sort_view (out-TypedNode y).sort))

abbrev pub shown : TypedNode → TypedNode → Bool
shown x y =
    let f = (out-TypedNode x).form in
    let g = (out-TypedNode y).form in
    same_outline (outline f) (outline g) && agree_besides nat_eq (compared f) (compared g) (sort_view (out-TypedNode x).sort) (sort_view (out-TypedNode y).sort)

abbrev pub parts-named : FieldNames ℕ → Bool → Bool → TypedNode → TypedNode → Bool
parts-named names a b x y = all_named names a b (sort_view (out-TypedNode x).sort) (sort_view (out-TypedNode y).sort) (views (out-TypedNode x).parts.items) (views (out-TypedNode y).parts.items)

and-true : (c : Bool) → (c && true) ≡ c
and-true true = refl
and-true false = refl

in-turn : (shown parts own inner : Bool) → ((shown && parts) && (own && inner)) ≡ (shown && (own && (parts && inner)))
in-turn false parts own inner = refl
in-turn true true own inner = refl
in-turn true false true inner = refl
in-turn true false false inner = refl

together : (h k : Bool) (f g : Form) (l m : Sort ℕ) (parts own inner : Bool) →
    (agree_at nat_eq h k f g l m parts && (h || (own && inner)))
    ≡ named_at h k (same_final nat_eq (final l) (final m)) (same_outline (outline f) (outline g) && agree_besides nat_eq (compared f) (compared g) l m) own (parts && inner)
together true true f g l m parts own inner = and-true (same_final nat_eq (final l) (final m))
together true false f g l m parts own inner = refl
together false true f g l m parts own inner = refl
together false false f g l m parts own inner = in-turn (same_outline (outline f) (outline g) && agree_besides nat_eq (compared f) (compared g) l m) parts own inner

opened-agree : (a b : Bool) (x y : TypedNode) →
    agree nat_eq a b (view x) (view y)
    ≡ agree_at nat_eq (hole a x) (hole b y) (out-TypedNode x).form (out-TypedNode y).form (sort_view (out-TypedNode x).sort) (sort_view (out-TypedNode y).sort)
    (all_agree nat_eq (within a x) (within b y) (views (out-TypedNode x).parts.items) (views (out-TypedNode y).parts.items))
opened-agree a b x y = ap (λ v. agree nat_eq a b v (view y)) (view_out x) ∙ ap (agree nat_eq a b (opened x)) (view_out y)

-- what two nodes agree in and name is what they do themselves, and what their parts do
pub opened-named : (names : FieldNames ℕ) (a b : Bool) (s t : Sort ℕ) (x y : TypedNode) →
    agree_named names a b s t (view x) (view y)
    ≡ named_at (hole a x) (hole b y) (types-agree x y) (shown x y) (own names s t x y) (parts-named names (within a x) (within b y) x y)
opened-named names a b s t x y =
    let l = sort_view (out-TypedNode x).sort in
    let m = sort_view (out-TypedNode y).sort in
    let ps = views (out-TypedNode x).parts.items in
    let qs = views (out-TypedNode y).parts.items in
    ap (λ r. r && fields_agree names names a b s t (view x) (view y)) (opened-agree a b x y)
    ∙ ap (λ r. agree_at nat_eq (hole a x) (hole b y) (out-TypedNode x).form (out-TypedNode y).form l m (all_agree nat_eq (within a x) (within b y) ps qs) && r) (opened-fields names a b s t x y)
    ∙ together (hole a x) (hole b y) (out-TypedNode x).form (out-TypedNode y).form l m (all_agree nat_eq (within a x) (within b y) ps qs) (own names s t x y) (inner names (within a x) (within b y) x y)

-- Two nodes that are no holes and show the same agree where they name the same fields, and their parts agree.
pub named-parts : (names : FieldNames ℕ) (a b c v w : Bool) (s t : Sort ℕ) (x y : TypedNode) (ps qs us vs : List (Option TypedNode)) → hole a x ≡ false → hole b y ≡ false → shown x y ≡ true →
    ps ≡ (out-TypedNode x).parts.items → qs ≡ (out-TypedNode y).parts.items → us ≡ (out-TypedNode x).parts.items → vs ≡ (out-TypedNode y).parts.items → v ≡ within a x → w ≡ within b y →
    same_field (names_field (outline (out-TypedNode x).form)) (field_name names s (outline (out-TypedNode x).form) (views ps)) (field_name names t (outline (out-TypedNode y).form) (views qs)) ≡ c →
    agree_named names a b s t (view x) (view y) ≡ (c && all_named names v w (sort_view (out-TypedNode x).sort) (sort_view (out-TypedNode y).sort) (views us) (views vs))
named-parts names a b c v w s t x y ps qs us vs h k g p q m n i j e =
    let o = outline (out-TypedNode x).form in
    let r = outline (out-TypedNode y).form in
    let ls = sort_view (out-TypedNode x).sort in
    let ms = sort_view (out-TypedNode y).sort in
    let xs = (out-TypedNode x).parts.items in
    let ys = (out-TypedNode y).parts.items in
    let mine : own names s t x y ≡ c =
    ap (λ zs. same_field (names_field o) (field_name names s o (views zs)) (field_name names t r (views ys))) (sym p)
    ∙ ap (λ zs. same_field (names_field o) (field_name names s o (views ps)) (field_name names t r (views zs))) (sym q) ∙ e in
    opened-named names a b s t x y
    ∙ ap (λ d. named_at d (hole b y) (types-agree x y) (shown x y) (own names s t x y) (parts-named names (within a x) (within b y) x y)) h
    ∙ ap (λ d. named_at false d (types-agree x y) (shown x y) (own names s t x y) (parts-named names (within a x) (within b y) x y)) k
    ∙ ap (λ d. d && (own names s t x y && parts-named names (within a x) (within b y) x y)) g
    ∙ ap (λ d. d && parts-named names (within a x) (within b y) x y) mine
    ∙ ap (λ d. c && all_named names d (within b y) ls ms (views xs) (views ys)) (sym i)
    ∙ ap (λ d. c && all_named names v d ls ms (views xs) (views ys)) (sym j)
    ∙ ap (λ zs. c && all_named names v w ls ms (views zs) (views ys)) (sym m)
    ∙ ap (λ zs. c && all_named names v w ls ms (views us) (views zs)) (sym n)

-- Two nodes that are no holes and don't show the same don't agree.
pub named-apart : (names : FieldNames ℕ) (a b : Bool) (s t : Sort ℕ) (x y : TypedNode) → hole a x ≡ false → hole b y ≡ false → shown x y ≡ false → agree_named names a b s t (view x) (view y) ≡ false
named-apart names a b s t x y h k g =
    opened-named names a b s t x y
    ∙ ap (λ d. named_at d (hole b y) (types-agree x y) (shown x y) (own names s t x y) (parts-named names (within a x) (within b y) x y)) h
    ∙ ap (λ d. named_at false d (types-agree x y) (shown x y) (own names s t x y) (parts-named names (within a x) (within b y) x y)) k
    ∙ ap (λ d. d && (own names s t x y && parts-named names (within a x) (within b y) x y)) g

-- ---- windows

-- windows that don't agree, or name other fields, are not the same
pub not-same : (agreed fields paired matched : Bool) → (agreed && fields) ≡ false → (agreed && paired && matched && fields) ≡ false
not-same true true paired matched h = cc
not-same true false paired matched h = and-false (paired && matched)
not-same false fields paired matched h = refl

-- others are the same where they are but for fields
pub same-but-fields : (same fields : Bool) → fields ≡ true → same ≡ (same && fields)
same-but-fields true fields h = sym h
same-but-fields false fields h = refl
