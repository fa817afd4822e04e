-- Rows of nodes that grow at their end.
use Rattle.std.proofs.Common.{◌≡◌, ℕ, zero, suc, ◌-◌, ◌<◌, ◌≤◌, max, List, [], ◌∷◌, ◌++◌, length, take, drop, Option, Some, None, refl, sym, ap, ◌∙◌, subst, arith}
use Rattle.std.proofs.Math.ListN.{get_or}
use Rattle.go_grammar.specs.Trees.{Tree, Trees, none, more, skip, depth, depths, onto}
use Rattle.go_grammar.specs.Reader.{Tends}
use Rattle.go_tree.specs.declared.node.Node.{Node}
use Rattle.go_tree.specs.Views.{view, views}
use Rattle.go_parse.specs.declared.row.Grown.{Grown}
use Rattle.go_parse.specs.declared.row.Row.{Row}
use Rattle.go_parse.specs.Engine.{prefix, IsLow, LeadsOn, IsRowOn}

pub onto_none : (ps : Trees) → onto ps none ≡ ps
onto_none none = refl
onto_none (more p ps) = ap (more p) (onto_none ps)
onto_none (skip ps) = ap skip (onto_none ps)

pub onto_onto : (ps qs rs : Trees) → onto (onto ps qs) rs ≡ onto ps (onto qs rs)
onto_onto none qs rs = refl
onto_onto (more p ps) qs rs = ap (more p) (onto_onto ps qs rs)
onto_onto (skip ps) qs rs = ap skip (onto_onto ps qs rs)

pub views_push : (ns : List (Option Node)) (o : Option Node) → views (ns ++ o ∷ []) ≡ onto (views ns) (views (o ∷ []))
views_push [] None = refl
views_push [] (Some n) = refl
views_push (None ∷ ns) o = ap skip (views_push ns o)
views_push (Some m ∷ ns) o = ap (more (view m)) (views_push ns o)

pub depths_onto : (ps qs : Trees) → depths (onto ps qs) ≡ max (depths ps) (depths qs)
depths_onto none qs = omega arith
depths_onto (more q ps) qs = let e = depths_onto ps qs in omega (arith, e)
depths_onto (skip ps) qs = depths_onto ps qs

-- a row with one part more
pub low_with : (m : ℕ) (row row' : Row) (part : Grown) → IsLow m row → part.depth ≡ depth (view part.node) → part.depth ≤ m → row'.parts.items ≡ row.parts.items ++ Some part.node ∷ [] → row'.levels ≡ max row.levels part.depth → IsLow m row'
low_with m row row' part low told le items levels = record {
  told =
      let e : depths (views row'.parts.items) ≡ max (depths (views row.parts.items)) (depths (more (view part.node) none)) = ap (λ ns. depths (views ns)) items ∙ ap depths (views_push row.parts.items (Some part.node)) ∙ depths_onto (views row.parts.items) (more (view part.node) none) in
      let f : depths (more (view part.node) none) ≡ depth (view part.node) = omega arith in
      omega (arith, e, f, low.told, levels, told);
  low = omega (arith, low.low, levels, le);
}

-- with one part more, which is left out
pub low_without : (m : ℕ) (row row' : Row) → IsLow m row → row'.parts.items ≡ row.parts.items ++ None ∷ [] → row'.levels ≡ row.levels → IsLow m row'
low_without m row row' low items levels = record {
  told =
      let e : depths (views row'.parts.items) ≡ max (depths (views row.parts.items)) 0 = ap (λ ns. depths (views ns)) items ∙ ap depths (views_push row.parts.items None) ∙ depths_onto (views row.parts.items) (skip none) in
      omega (arith, e, low.told, levels);
  low = omega (arith, low.low, levels);
}

-- what stands behind a part, or behind one that is left out
abbrev pub behind : Tree → Option (Trees × ℕ) → Option (Trees × ℕ)
behind p None = None
behind p (Some x) = Some (more p x.0, x.1)

abbrev pub skipped : Option (Trees × ℕ) → Option (Trees × ℕ)
skipped None = None
skipped (Some x) = Some (skip x.0, x.1)

prefix_behind : (qs : Trees) (p : Tree) (x : Option (Trees × ℕ)) → prefix (onto qs (more p none)) x ≡ prefix qs (behind p x)
prefix_behind qs p None = refl
prefix_behind qs p (Some (rs, j)) = ap (λ z. Some (z, j)) (onto_onto qs (more p none) rs)

prefix_skipped : (qs : Trees) (x : Option (Trees × ℕ)) → prefix (onto qs (skip none)) x ≡ prefix qs (skipped x)
prefix_skipped qs None = refl
prefix_skipped qs (Some (rs, j)) = ap (λ z. Some (z, j)) (onto_onto qs (skip none) rs)

-- A row that goes on with one part more.
pub leads_with : (f g h : ℕ → Option (Trees × ℕ)) (before row row' : Row) (node : Node) → LeadsOn f g before row → row'.parts.items ≡ row.parts.items ++ Some node ∷ [] → ((x : Option (Trees × ℕ)) → Tends h x → Tends g (behind (view node) x)) → LeadsOn f h before row'
leads_with f g h before row row' node leads items step = record {
  behind = onto leads.behind (more (view node) none);
  are =
      ap views items ∙ views_push row.parts.items (Some node) ∙ ap (λ ps. onto ps (more (view node) none)) leads.are ∙
      onto_onto (views before.parts.items) leads.behind (more (view node) none);
  leads = λ x t. subst (Tends f) (sym (prefix_behind leads.behind (view node) x)) (leads.leads (behind (view node) x) (step x t));
}

pub leads_without : (f g h : ℕ → Option (Trees × ℕ)) (before row row' : Row) → LeadsOn f g before row → row'.parts.items ≡ row.parts.items ++ None ∷ [] → ((x : Option (Trees × ℕ)) → Tends h x → Tends g (skipped x)) → LeadsOn f h before row'
leads_without f g h before row row' leads items step = record {
  behind = onto leads.behind (skip none);
  are =
      ap views items ∙ views_push row.parts.items None ∙ ap (λ ps. onto ps (skip none)) leads.are ∙
      onto_onto (views before.parts.items) leads.behind (skip none);
  leads = λ x t. subst (Tends f) (sym (prefix_skipped leads.behind x)) (leads.leads (skipped x) (step x t));
}

-- the same, with no part more
pub leads_same : (f g h : ℕ → Option (Trees × ℕ)) (before row row' : Row) → LeadsOn f g before row → row'.parts.items ≡ row.parts.items → ((x : Option (Trees × ℕ)) → Tends h x → Tends g x) → LeadsOn f h before row'
leads_same f g h before row row' leads items step = record {
  behind = leads.behind;
  are = ap views items ∙ leads.are;
  leads = λ x t. leads.leads x (step x t);
}

pub leads_begin : (f : ℕ → Option (Trees × ℕ)) (row row' : Row) → row'.parts.items ≡ row.parts.items → LeadsOn f f row row'
leads_begin f row row' items = record {
  behind = none;
  are = ap views items ∙ sym (onto_none (views row.parts.items));
  leads = λ x t. subst (Tends f) (sym (none_prefix x)) t;
}
  where
    none_prefix : (x : Option (Trees × ℕ)) → prefix none x ≡ x
    none_prefix None = refl
    none_prefix (Some (ps, j)) = refl

prefix_prefix : (ps qs : Trees) (x : Option (Trees × ℕ)) → prefix (onto ps qs) x ≡ prefix ps (prefix qs x)
prefix_prefix ps qs None = refl
prefix_prefix ps qs (Some (rs, j)) = ap (λ z. Some (z, j)) (onto_onto ps qs rs)

-- one after the other
pub leads_leads : (f g h : ℕ → Option (Trees × ℕ)) (before row row' : Row) → LeadsOn f g before row → LeadsOn g h row row' → LeadsOn f h before row'
leads_leads f g h before row row' a b = record {
  behind = onto a.behind b.behind;
  are = b.are ∙ ap (λ ps. onto ps b.behind) a.are ∙ onto_onto (views before.parts.items) a.behind b.behind;
  leads = λ x t. subst (Tends f) (sym (prefix_prefix a.behind b.behind x)) (a.leads (prefix b.behind x) (b.leads x t));
}

-- what was found of the rest
pub leads_to : (f g : ℕ → Option (Trees × ℕ)) (before row row' : Row) → LeadsOn f g before row → IsRowOn g row row' → IsRowOn f before row'
leads_to f g before row row' leads on = record {
  behind = onto leads.behind on.behind;
  are = on.are ∙ ap (λ ps. onto ps on.behind) leads.are ∙ onto_onto (views before.parts.items) leads.behind on.behind;
  tends = leads.leads (Some (on.behind, row'.last)) on.tends;
}

-- nothing is left to be found
pub leads_end : (f g : ℕ → Option (Trees × ℕ)) (before row row' : Row) → LeadsOn f g before row → row'.parts.items ≡ row.parts.items → Tends g (Some (none, row'.last)) → IsRowOn f before row'
leads_end f g before row row' leads items t = record {
  behind = leads.behind;
  are = ap views items ∙ leads.are;
  tends = subst (λ ps. Tends f (Some (ps, row'.last))) (onto_none leads.behind) (leads.leads (Some (none, row'.last)) t);
}

-- what was found by another function that finds the same
pub row_on : (f g : ℕ → Option (Trees × ℕ)) (before after : Row) → ((x : Option (Trees × ℕ)) → Tends g x → Tends f x) → IsRowOn g before after → IsRowOn f before after
row_on f g before after same on = record { behind = on.behind; are = on.are; tends = same (Some (on.behind, after.last)) on.tends }

pub drop_get : {A : Type 0} (xs : List A) (i : ℕ) (d x : A) → i < length xs → get_or xs i d ≡ x → drop i xs ≡ x ∷ drop (suc i) xs
drop_get [] i d x lt h = absurd (omega arith)
drop_get (y ∷ xs) zero d x lt h = ap (λ z. z ∷ xs) h
drop_get (y ∷ xs) (suc i) d x lt h = drop_get xs i d x (omega arith) h

pub drop_past : {A : Type 0} (xs : List A) (i : ℕ) → length xs ≤ i → drop i xs ≡ []
drop_past [] zero le = refl
drop_past [] (suc i) le = refl
drop_past (y ∷ xs) zero le = absurd (omega arith)
drop_past (y ∷ xs) (suc i) le = drop_past xs i (omega arith)

take_all : {A : Type 0} (xs : List A) → take (length xs) xs ≡ xs
take_all [] = refl
take_all (x ∷ xs) = ap (λ zs. x ∷ zs) (take_all xs)

-- what `&xs[1..]` is
pub from_one : {A : Type 0} (xs : List A) → take (length xs - 1) (drop 1 xs) ≡ drop 1 xs
from_one [] = refl
from_one (x ∷ xs) = let e : length (x ∷ xs) - 1 ≡ length xs = omega arith in ap (λ n. take n xs) e ∙ take_all xs
