-- What tells where names are declared stays, where no replaced expression has such a token on its own way.
use Rattle.std.proofs.Common.{◌≡◌, ◌∙◌, ℕ, zero, suc, ◌<◌, ◌≤◌, inl, inr, true, List, [], ◌∷◌, ◌++◌, Some, refl, sym, subst, arith}
use Rattle.std.specs.List.{AllByRecursion}
use Rattle.go_grammar.specs.declared.kind.Kind.{Kind}
use Rattle.go_grammar.specs.declared.kind.Kind.TheVariants as kind
use Rattle.go_grammar.specs.Trees.{Tree, node, Trees, none, more, skip, first, last}
use Rattle.go_rewriting.specs.Lists.{InOrder, Ordered}
use Rattle.go_rewriting.specs.Places.{Patch, Patches, keep, put, inside, done, part, run, Range, range, Outside, places, places_in, Ascending}
use Rattle.go_rewriting.specs.Replacing.{subtree_at, subtree_in}
use Rattle.go_rewriting.specs.Sites.{whole, parts_of, next_patch, other_patches, nth_patch, set_patch, insert}
use Rattle.go_tree.specs.Contexts.{opens}
use Rattle.extract_names.specs.Copies.{Replaced, StaysOutside}
use Rattle.extract_names_derived.specs.Apart.{NodesStay, NodesStayInRow, counts_first, hole_ranges}
use Rattle.extract_names_derived.specs.Holes.{name_over}
use Rattle.extract_names_holes.specs.Spots.{EdgeStays, EdgesStay, EdgesStayIn, Spot, SpotStands, SpotStays, SpotsAreHoles, spot_patches, spot_ranges}
use Rattle.extract_names_holes.proofs.Inserted.{spots_inside}
use Rattle.extract_names_holes.proofs.Placed.{Single, Singles, ascend_left, ascend_order, list_single, node_parts, node_places, others_all, row_ascends, row_next, row_order, row_other, row_skip, set_places, skip_places, spots_placed, sub_row, tree_ascends, tree_grows}

-- ---- one node

-- None of these places has the node's token that tells where names are declared.
record Free (k : Kind) (i j : ℕ) (rs : List Range) : Type 0 where
  first : counts_first k ≡ true → Outside i rs
  block : opens k ≡ true → Outside i rs
  last : k ≡ kind.Selector → (x : ℕ) × (j ≡ suc x) × Outside x rs

one_less : (i j : ℕ) → i < j → (x : ℕ) × (j ≡ suc x)
one_less i zero lt = absurd (omega (arith, lt))
one_less i (suc x) lt = (x, refl)

none_free : (k : Kind) (i j : ℕ) → i < j → Free k i j []
none_free k i j lt = record { first = λ e. tt; block = λ e. tt; last = λ e. let x = one_less i j lt in (x.0, x.1, tt) }

one_free : (k : Kind) (i j from upto : ℕ) (rs : List Range) → EdgeStays from upto k i j → Free k i j rs → Free k i j (range from upto ∷ rs)
one_free k i j from upto rs w h = record {
  first = λ e. (inl (w.first e), h.first e);
  block = λ e. (inl (w.block e), h.block e);
  last = λ e. let l = h.last e in (l.0, l.1, (inr (omega (arith, w.last e, l.1)), l.2));
}

-- ---- all nodes

abbrev mutual
  AllFree : Tree → Patch → Type 0
  AllFree t keep = Unit {0}
  AllFree t (put s) = Unit {0}
  AllFree (node k i j ps) (inside qs) = Free k i j (places_in ps qs) × FreeIn ps qs

  FreeIn : Trees → Patches → Type 0
  FreeIn ps done = Unit {0}
  FreeIn none (part q qs) = Unit {0}
  FreeIn (more p ps) (part q qs) = AllFree p q × FreeIn ps qs
  FreeIn (skip ps) (part q qs) = FreeIn ps qs
  FreeIn ps (run n new qs) = ⊥

node_free : (k : Kind) (i j : ℕ) (ps : Trees) (q : Patch) → i < j → AllFree (node k i j ps) q → Free k i j (places_in ps (parts_of q))
node_free k i j ps keep lt h = none_free k i j lt
node_free k i j ps (put s) lt h = none_free k i j lt
node_free k i j ps (inside qs) lt h = h.0

parts_free : (k : Kind) (i j : ℕ) (ps : Trees) (q : Patch) → AllFree (node k i j ps) q → FreeIn ps (parts_of q)
parts_free k i j ps keep h = tt
parts_free k i j ps (put s) h = tt
parts_free k i j ps (inside qs) h = h.1

free_next : (p : Tree) (ps : Trees) (qs : Patches) → FreeIn (more p ps) qs → AllFree p (next_patch qs)
free_next p ps done h = tt
free_next p ps (part q qs) h = h.0
free_next p ps (run n new qs) h = absurd h

free_other : (p : Tree) (ps : Trees) (qs : Patches) → FreeIn (more p ps) qs → FreeIn ps (other_patches qs)
free_other p ps done h = tt
free_other p ps (part q qs) h = h.1
free_other p ps (run n new qs) h = absurd h

free_skip : (ps : Trees) (qs : Patches) → FreeIn (skip ps) qs → FreeIn ps (other_patches qs)
free_skip ps done h = tt
free_skip ps (part q qs) h = h
free_skip ps (run n new qs) h = absurd h

next_ascends : (p : Tree) (ps : Trees) (qs : Patches) (u j : ℕ) → Singles (more p ps) qs → Ascending u (places_in (more p ps) qs) j → Ascending u (places p (next_patch qs)) j
next_ascends p ps done u j s h = h
next_ascends p ps (part q qs) u j s h = ascend_left (places p q) (places_in ps qs) u j h
next_ascends p ps (run n new qs) u j s h = absurd s

module _ (stood : Tree) (new : Tree) (j : ℕ) where
  mutual
    insert_free : (path : List ℕ) (t : Tree) (q : Patch) → InOrder t → Single t q → AllFree t q → subtree_at path t ≡ Some stood → EdgesStay (first stood) (last stood) path t → Ascending (last stood) (places t q) j → AllFree t (insert path (whole new) q)
    insert_free [] t q o s f e w h = tt
    insert_free (n ∷ path) (node k a b ps) q o s f e w h =
        let same = node_places stood new j k a b ps q (sub_row n path ps stood a b o.1 e) h in
        let single : Singles ps (parts_of q) = node_parts k a b ps q s in
        let below : Ascending (last stood) (places_in ps (parts_of q)) j = subst (λ z. Ascending (last stood) z j) same h in (
          subst (Free k a b) (sym (set_places stood new j n path ps (parts_of q) a b o.1 single e below)) (one_free k a b (first stood) (last stood) (places_in ps (parts_of q)) w.0 (node_free k a b ps q o.0 f)),
          set_free n path ps (parts_of q) a b o.1 single (parts_free k a b ps q f) e w.1 below,
        )

    set_free : (n : ℕ) (path : List ℕ) (ps : Trees) (qs : Patches) (y c : ℕ) → Ordered y ps c → Singles ps qs → FreeIn ps qs → subtree_in n path ps ≡ Some stood → EdgesStayIn (first stood) (last stood) n path ps → Ascending (last stood) (places_in ps qs) j
        → FreeIn ps (set_patch n (insert path (whole new) (nth_patch n qs)) qs)
    set_free n path none qs y c o s f e w h = absurd cc
    set_free zero path (more p ps) qs y c o s f e w h = (insert_free path p (next_patch qs) o.1 (row_next p ps qs s) (free_next p ps qs f) e w (next_ascends p ps qs (last stood) j s h), free_other p ps qs f)
    set_free (suc n) path (more p ps) qs y c o s f e w h =
        let at = sub_row n path ps stood (last p) c o.2 e in
        let le : last p ≤ last stood = omega (arith, at.0, at.1) in
        let same : places_in ps (other_patches qs) ≡ places_in (more p ps) qs = others_all p ps (last stood) j o.1 le qs s h in
        (free_next p ps qs f, set_free n path ps (other_patches qs) (last p) c o.2 (row_other p ps qs s) (free_other p ps qs f) e w (subst (λ z. Ascending (last stood) z j) (sym same) h))
    set_free zero path (skip ps) qs y c o s f e w h = absurd cc
    set_free (suc n) path (skip ps) qs y c o s f e w h =
        set_free n path ps (other_patches qs) y c o (row_skip ps qs s) (free_skip ps qs f) e w (subst (λ z. Ascending (last stood) z j) (sym (skip_places ps qs s)) h)

spots_free : (v : ℕ → ℕ) (ps : Trees) (ss : List Spot) → AllByRecursion (SpotStands ps) ss → AllByRecursion (SpotStays ps) ss → (i x j : ℕ) → Ordered i ps j → Ascending x (spot_ranges ss) j → FreeIn ps (spot_patches v ss)
spots_free v ps [] h w i x j o a = tt
spots_free v ps (s ∷ ss) h w i x j o a =
    let g = h.0 in
    let path : List ℕ = s.part ∷ s.path in
    let tail : places_in ps (spot_patches v ss) ≡ spot_ranges ss = spots_placed v ps ss h.1 i s.upto j o a.2 in
    let behind : Ascending (last g.stood) (places_in ps (spot_patches v ss)) j = subst (λ z. Ascending z (places_in ps (spot_patches v ss)) j) (sym g.ends) (subst (λ z. Ascending s.upto z j) (sym tail) a.2) in
    let single : Singles ps (spot_patches v ss) = list_single v ps (spot_patches v ss) (spots_inside v ps ss h.1) in
    let edges : EdgesStayIn (first g.stood) (last g.stood) s.statement path ps = subst (λ z. EdgesStayIn z (last g.stood) s.statement path ps) (sym g.begins) (subst (λ z. EdgesStayIn s.from z s.statement path ps) (sym g.ends) w.0) in
    set_free g.stood (name_over (v s.from)) j s.statement path ps (spot_patches v ss) i j o single (spots_free v ps ss h.1 w.1 i s.upto j o a.2) g.at_path edges behind

-- ---- of all holes

both_out : (rs ss : List Range) (x : ℕ) → Outside x rs → Outside x ss → Outside x (rs ++ ss)
both_out [] ss x h g = g
both_out (r ∷ rs) ss x h g = (h.0, both_out rs ss x h.1 g)

out_before : (rs : List Range) (u j x : ℕ) → Ascending u rs j → x < u → Outside x rs
out_before [] u j x h lt = tt
out_before (r ∷ rs) u j x h lt = (inl (omega (arith, lt, h.0)), out_before rs r.upto j x h.2 (omega (arith, lt, h.0, h.1)))

out_behind : (rs : List Range) (u j x : ℕ) → Ascending u rs j → j ≤ x → Outside x rs
out_behind [] u j x h le = tt
out_behind (r ∷ rs) u j x h le = (inr (omega (arith, le, ascend_order r.upto j rs h.2)), out_behind rs r.upto j x h.2 le)

outside_stays : (hs : List Replaced) (x : ℕ) → Outside x (hole_ranges hs) → StaysOutside hs x
outside_stays [] x h = tt
outside_stays (r ∷ hs) x h = (h.0, outside_stays hs x h.1)

-- From one token up to another no hole has one but in these places.
abbrev Sees : List Replaced → ℕ → ℕ → List Range → Type 0
Sees hs i j rs = (x : ℕ) → i ≤ x → x < j → Outside x rs → StaysOutside hs x

module _ (hs : List Replaced) where
  mutual
    tree_stays : (t : Tree) (q : Patch) → InOrder t → Single t q → AllFree t q → Sees hs (first t) (last t) (places t q) → NodesStay hs t q
    tree_stays t keep o s f see = tt
    tree_stays t (put u) o s f see = tt
    tree_stays (node k i j ps) (inside qs) o s f see = (
      record {
        first = λ e. see i (omega arith) o.0 (f.0.first e);
        block = λ e. see i (omega arith) o.0 (f.0.block e);
        last = λ e. let l = f.0.last e in (l.0, l.1, see l.0 (omega (arith, o.0, l.1)) (omega (arith, l.1)) l.2);
      },
      row_stays i j ps qs o.1 s f.1 see,
    )

    row_stays : (i j : ℕ) (ps : Trees) (qs : Patches) → Ordered i ps j → Singles ps qs → FreeIn ps qs → Sees hs i j (places_in ps qs) → NodesStayInRow hs ps qs
    row_stays i j ps done o s f see = tt
    row_stays i j none (part q qs) o s f see = tt
    row_stays i j (more p ps) (part q qs) o s f see =
        let end : last p ≤ j = row_order (last p) j ps o.2 in
        let grows : first p < last p = tree_grows p o.1 in (
          tree_stays p q o.1 s.0 f.0 (λ x lo hi out. see x (omega (arith, lo, o.0)) (omega (arith, hi, end)) (both_out (places p q) (places_in ps qs) x out (out_before (places_in ps qs) (last p) j x (row_ascends (last p) j ps qs o.2 s.1) hi))),
          row_stays (last p) j ps qs o.2 s.1 f.1 (λ x lo hi out. see x (omega (arith, lo, o.0, grows)) hi (both_out (places p q) (places_in ps qs) x (out_behind (places p q) (first p) (last p) x (tree_ascends p q o.1 s.0) lo) out)),
        )
    row_stays i j (skip ps) (part q qs) o s f see = row_stays i j ps qs o s f see
    row_stays i j ps (run n new qs) o s f see = absurd s

pub spots_are_holes : SpotsAreHoles
spots_are_holes c ps ss i j o h w a same =
    let qs : Patches = spot_patches c.place ss in
    let there : places_in ps qs ≡ spot_ranges ss = spots_placed c.place ps ss h i i j o a in
    record {
      stay = row_stays c.holes i j ps qs o (list_single c.place ps qs (spots_inside c.place ps ss h)) (spots_free c.place ps ss h w i i j o a)
          (λ x lo hi out. outside_stays c.holes x (subst (Outside x) (there ∙ sym same) out));
      same = there ∙ sym same;
    }
