-- Holes lie beside the trees that stay, and inside those that names stand in.
use Rattle.std.proofs.Common.{◌≡◌, ◌∙◌, ℕ, ◌<◌, ◌≤◌, ◌⊎◌, inl, inr, List, [], ◌∷◌, ◌++◌, refl, sym, ap, subst, append_assoc, arith}
use Rattle.go_grammar.specs.declared.kind.Kind.{Kind}
use Rattle.go_grammar.specs.declared.kind.Kind.TheVariants as kind
use Rattle.go_grammar.specs.declared.kind.Sort.TheVariants as sort
use Rattle.go_grammar.specs.Trees.{Tree, node, Trees, none, more, skip, first, last}
use Rattle.go_rewriting.specs.Places.{Patch, Patches, keep, put, inside, done, part, run, Range, places, places_in}
use Rattle.go_scopes_events.proofs.Public.{IsLaidOut, LieIn, behind_name, lie_order, laid_grows}
use Rattle.extract_names.specs.Copies.{Replaced}
use Rattle.extract_names_derived.specs.Apart.{NodeStays, NodesStay, NodesStayInRow, hole_ranges}

-- no hole has a token from u up to w
abbrev pub Beside : List Replaced → ℕ → ℕ → Type 0
Beside [] u w = Unit {0}
Beside (h ∷ hs) u w = ((h.upto ≤ u) ⊎ (w ≤ h.from)) × Beside hs u w

-- each hole lies there, or beside
abbrev pub Around : List Replaced → ℕ → ℕ → Type 0
Around [] u w = Unit {0}
Around (h ∷ hs) u w = ((h.upto ≤ u) ⊎ ((w ≤ h.from) ⊎ ((u ≤ h.from) × (h.upto ≤ w)))) × Around hs u w

abbrev pub AllBeside : List Replaced → Trees → Type 0
AllBeside hs none = Unit {0}
AllBeside hs (more p ps) = Beside hs (first p) (last p) × AllBeside hs ps
AllBeside hs (skip ps) = AllBeside hs ps

abbrev mutual
  -- Each part of a tree that stays lies beside all holes, and each one that names stand in has holes inside or beside it.
  pub ApartIn : List Replaced → Tree → Patch → Type 0
  ApartIn hs t keep = Beside hs (first t) (last t)
  ApartIn hs t (put s) = Unit {0}
  ApartIn hs (node k i j ps) (inside qs) = Around hs i j × NodeStays hs k i j × ApartInRow hs ps qs

  pub ApartInRow : List Replaced → Trees → Patches → Type 0
  ApartInRow hs ps done = AllBeside hs ps
  ApartInRow hs none (part q qs) = Unit {0}
  ApartInRow hs (more p ps) (part q qs) = ApartIn hs p q × ApartInRow hs ps qs
  ApartInRow hs (skip ps) (part q qs) = ApartInRow hs ps qs
  ApartInRow hs ps (run m new qs) = ⊥

-- ---- ranges

abbrev AllFront : List Range → ℕ → Type 0
AllFront [] u = Unit {0}
AllFront (r ∷ rs) u = (r.upto ≤ u) × AllFront rs u

abbrev AllBehind : List Range → ℕ → Type 0
AllBehind [] w = Unit {0}
AllBehind (r ∷ rs) w = (w ≤ r.from) × AllBehind rs w

abbrev AllWithin : List Range → ℕ → ℕ → Type 0
AllWithin [] u w = Unit {0}
AllWithin (r ∷ rs) u w = ((u ≤ r.from) × (r.upto ≤ w)) × AllWithin rs u w

abbrev Lies : List Range → ℕ → ℕ → Type 0
Lies [] u w = Unit {0}
Lies (r ∷ rs) u w = ((r.upto ≤ u) ⊎ ((w ≤ r.from) ⊎ ((u ≤ r.from) × (r.upto ≤ w)))) × Lies rs u w

abbrev LiesBeside : List Range → ℕ → ℕ → Type 0
LiesBeside [] u w = Unit {0}
LiesBeside (r ∷ rs) u w = ((r.upto ≤ u) ⊎ (w ≤ r.from)) × LiesBeside rs u w

lies_around : (hs : List Replaced) (u w : ℕ) → Lies (hole_ranges hs) u w → Around hs u w
lies_around [] u w h = tt
lies_around (x ∷ hs) u w h = (h.0, lies_around hs u w h.1)

lies_beside : (hs : List Replaced) (u w : ℕ) → LiesBeside (hole_ranges hs) u w → Beside hs u w
lies_beside [] u w h = tt
lies_beside (x ∷ hs) u w h = (h.0, lies_beside hs u w h.1)

front_append : (rs ss : List Range) (u : ℕ) → AllFront rs u → AllFront ss u → AllFront (rs ++ ss) u
front_append [] ss u h g = g
front_append (r ∷ rs) ss u h g = (h.0, front_append rs ss u h.1 g)

behind_append : (rs ss : List Range) (w : ℕ) → AllBehind rs w → AllBehind ss w → AllBehind (rs ++ ss) w
behind_append [] ss w h g = g
behind_append (r ∷ rs) ss w h g = (h.0, behind_append rs ss w h.1 g)

within_append : (rs ss : List Range) (u w : ℕ) → AllWithin rs u w → AllWithin ss u w → AllWithin (rs ++ ss) u w
within_append [] ss u w h g = g
within_append (r ∷ rs) ss u w h g = (h.0, within_append rs ss u w h.1 g)

front_later : (rs : List Range) (u x : ℕ) → AllFront rs u → u ≤ x → AllFront rs x
front_later [] u x h le = tt
front_later (r ∷ rs) u x h le = (omega (arith, h.0, le), front_later rs u x h.1 le)

behind_earlier : (rs : List Range) (w x : ℕ) → AllBehind rs w → x ≤ w → AllBehind rs x
behind_earlier [] w x h le = tt
behind_earlier (r ∷ rs) w x h le = (omega (arith, h.0, le), behind_earlier rs w x h.1 le)

within_front : (rs : List Range) (u w : ℕ) → AllWithin rs u w → AllFront rs w
within_front [] u w h = tt
within_front (r ∷ rs) u w h = ((h.0).1, within_front rs u w h.1)

within_behind : (rs : List Range) (u w : ℕ) → AllWithin rs u w → AllBehind rs u
within_behind [] u w h = tt
within_behind (r ∷ rs) u w h = ((h.0).0, within_behind rs u w h.1)

within_wider : (rs : List Range) (u w x y : ℕ) → AllWithin rs u w → x ≤ u → w ≤ y → AllWithin rs x y
within_wider [] u w x y h le hi = tt
within_wider (r ∷ rs) u w x y h le hi = ((omega (arith, le, (h.0).0), omega (arith, hi, (h.0).1)), within_wider rs u w x y h.1 le hi)

behind_only : (bs : List Range) (u w : ℕ) → AllBehind bs w → LiesBeside bs u w
behind_only [] u w b = tt
behind_only (r ∷ bs) u w b = (inr b.0, behind_only bs u w b.1)

both_beside : (rs bs : List Range) (u w : ℕ) → AllFront rs u → AllBehind bs w → LiesBeside (rs ++ bs) u w
both_beside [] bs u w a b = behind_only bs u w b
both_beside (r ∷ rs) bs u w a b = (inl a.0, both_beside rs bs u w a.1 b)

behind_lie : (bs : List Range) (u w : ℕ) → AllBehind bs w → Lies bs u w
behind_lie [] u w b = tt
behind_lie (r ∷ bs) u w b = (inr (inl b.0), behind_lie bs u w b.1)

within_lie : (rs bs : List Range) (u w : ℕ) → AllWithin rs u w → AllBehind bs w → Lies (rs ++ bs) u w
within_lie [] bs u w h b = behind_lie bs u w b
within_lie (r ∷ rs) bs u w h b = (inr (inr h.0), within_lie rs bs u w h.1 b)

all_lie : (fs rs bs : List Range) (u w : ℕ) → AllFront fs u → AllWithin rs u w → AllBehind bs w → Lies (fs ++ (rs ++ bs)) u w
all_lie [] rs bs u w a h b = within_lie rs bs u w h b
all_lie (r ∷ fs) rs bs u w a h b = (inl a.0, all_lie fs rs bs u w a.1 h b)

-- ---- trees

name_above : (k : Kind) (i : ℕ) → i ≤ behind_name k i
name_above kind.FunctionDeclaration i = omega arith
name_above (kind.Specification sort.Type) i = omega arith
name_above kind.DeclaredName i = omega arith
name_above kind.Name i = omega arith
name_above k i = omega arith

module _ (hs : List Replaced) where
  mutual
    tree_within : (t : Tree) (q : Patch) → IsLaidOut t → NodesStay hs t q → AllWithin (places t q) (first t) (last t)
    tree_within t keep l s = tt
    tree_within t (put x) l s = ((omega arith, omega arith), tt)
    tree_within (node k i j ps) (inside qs) l s = within_wider (places_in ps qs) (behind_name k i) j i j (row_within ps qs (behind_name k i) j l.1 s.1) (name_above k i) (omega arith)

    row_within : (ps : Trees) (qs : Patches) (x j : ℕ) → LieIn x j ps → NodesStayInRow hs ps qs → AllWithin (places_in ps qs) x j
    row_within ps done x j l s = tt
    row_within none (part q qs) x j l s = tt
    row_within (skip ps) (part q qs) x j l s = row_within ps qs x j l s
    row_within none (run m new qs) x j l s = absurd s
    row_within (more p ps) (run m new qs) x j l s = absurd s
    row_within (skip ps) (run m new qs) x j l s = absurd s
    row_within (more p ps) (part q qs) x j l s =
        let grows : first p < last p = laid_grows p l.1 in
        within_append (places p q) (places_in ps qs) x j (within_wider (places p q) (first p) (last p) x j (tree_within p q l.1 s.0) l.0 (lie_order (last p) j ps l.2))
        (within_wider (places_in ps qs) (last p) j x j (row_within ps qs (last p) j l.2 s.1) (omega (arith, l.0, grows)) (omega arith))

  rest_beside : (ps : Trees) (x j : ℕ) (fs bs : List Range) → LieIn x j ps → AllFront fs x → AllBehind bs j → hole_ranges hs ≡ fs ++ bs → AllBeside hs ps
  rest_beside none x j fs bs l a b e = tt
  rest_beside (skip ps) x j fs bs l a b e = rest_beside ps x j fs bs l a b e
  rest_beside (more p ps) x j fs bs l a b e =
      let grows : first p < last p = laid_grows p l.1 in
      let order : last p ≤ j = lie_order (last p) j ps l.2 in (
        lies_beside hs (first p) (last p) (subst (λ z. LiesBeside z (first p) (last p)) (sym e) (both_beside fs bs (first p) (last p) (front_later fs x (first p) a l.0) (behind_earlier bs j (last p) b order))),
        rest_beside ps (last p) j fs bs l.2 (front_later fs x (last p) a (omega (arith, l.0, grows))) b e,
      )

  mutual
    tree_apart : (t : Tree) (q : Patch) (fs bs : List Range) → IsLaidOut t → NodesStay hs t q → AllFront fs (first t) → AllBehind bs (last t) → hole_ranges hs ≡ fs ++ (places t q ++ bs) → ApartIn hs t q
    tree_apart t keep fs bs l s a b e = lies_beside hs (first t) (last t) (subst (λ z. LiesBeside z (first t) (last t)) (sym e) (both_beside fs bs (first t) (last t) a b))
    tree_apart t (put x) fs bs l s a b e = tt
    tree_apart (node k i j ps) (inside qs) fs bs l s a b e = (
      lies_around hs i j (subst (λ z. Lies z i j) (sym e) (all_lie fs (places_in ps qs) bs i j a (tree_within (node k i j ps) (inside qs) l s) b)),
      s.0,
      row_apart ps qs (behind_name k i) j fs bs l.1 s.1 (front_later fs i (behind_name k i) a (name_above k i)) b e,
    )

    pub row_apart : (ps : Trees) (qs : Patches) (x j : ℕ) (fs bs : List Range) → LieIn x j ps → NodesStayInRow hs ps qs → AllFront fs x → AllBehind bs j → hole_ranges hs ≡ fs ++ (places_in ps qs ++ bs) → ApartInRow hs ps qs
    row_apart ps done x j fs bs l s a b e = rest_beside ps x j fs bs l a b e
    row_apart none (part q qs) x j fs bs l s a b e = tt
    row_apart (skip ps) (part q qs) x j fs bs l s a b e = row_apart ps qs x j fs bs l s a b e
    row_apart none (run m new qs) x j fs bs l s a b e = absurd s
    row_apart (more p ps) (run m new qs) x j fs bs l s a b e = absurd s
    row_apart (skip ps) (run m new qs) x j fs bs l s a b e = absurd s
    row_apart (more p ps) (part q qs) x j fs bs l s a b e =
        let grows : first p < last p = laid_grows p l.1 in
        let order : last p ≤ j = lie_order (last p) j ps l.2 in
        let same : hole_ranges hs ≡ fs ++ (places p q ++ (places_in ps qs ++ bs)) = e ∙ ap (λ z. fs ++ z) (append_assoc (places p q) (places_in ps qs) bs) in (
          tree_apart p q fs (places_in ps qs ++ bs) l.1 s.0 (front_later fs x (first p) a l.0)
              (behind_append (places_in ps qs) bs (last p) (within_behind (places_in ps qs) (last p) j (row_within ps qs (last p) j l.2 s.1)) (behind_earlier bs j (last p) b order)) same,
          row_apart ps qs (last p) j (fs ++ places p q) bs l.2 s.1
              (front_append fs (places p q) (last p) (front_later fs x (last p) a (omega (arith, l.0, grows))) (within_front (places p q) (first p) (last p) (tree_within p q l.1 s.0))) b
              (same ∙ sym (append_assoc fs (places p q) (places_in ps qs ++ bs))),
        )

append_none : (rs : List Range) → rs ++ [] ≡ rs
append_none [] = refl
append_none (r ∷ rs) = ap (λ z. r ∷ z) (append_none rs)

pub list_apart : (hs : List Replaced) (ps : Trees) (qs : Patches) (x j : ℕ) → LieIn x j ps → NodesStayInRow hs ps qs → places_in ps qs ≡ hole_ranges hs → ApartInRow hs ps qs
list_apart hs ps qs x j l s e = row_apart hs ps qs x j [] [] l s tt tt (sym e ∙ sym (append_none (places_in ps qs)))
