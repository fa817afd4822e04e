-- What a table of nodes says of its tree.
use Rattle.std.proofs.Common.{◌≡◌, ◌∙◌, ◌⊎◌, inl, inr, ℕ, zero, suc, ◌+◌, ◌-◌, ◌<◌, ◌≤◌, Bool, true, false, List, [], ◌∷◌, ◌++◌, length, map, Option, Some, None, slice_get, refl, sym, ap, subst, arith}
use Rattle.std.specs.Prelude.{if◌then◌else◌}
use Rattle.std.specs.Option.{option_map}
use Rattle.std.proofs.lemmas.List.{append_assoc, append-nil, length-append, map-append}
use Rattle.std.proofs.lemmas.Option.{same_Some, none-some, slice_get-map, slice_get_past}
use Rattle.go_typed.specs.declared.node.TypedNode.{TypedNode}
use Rattle.go_typed.specs.declared.node.TypedNode.TheViews.{out-TypedNode}
use Rattle.go_typed.specs.declared.node_table.NodeTable.{NodeTable}
use Rattle.go_typed.specs.declared.node_table.PartPlace.{PartPlace}
use Rattle.go_typed.specs.Forms.{is_statement_list}
use Rattle.go_typed.specs.Funcs.{size, sizes}
use Rattle.go_typed.specs.Lists.{own_list, statement_lists, lists_among}
use Rattle.go_typed.specs.NodeTables.{inner_places, part_places, own_number, list_numbers, numbers_among, part_there, IsTableOf}
use Rattle.go_typed.specs.Places.{nodes, nodes_among}
use Rattle.go_typed.specs.Trees.{Typed, typed, Typeds, none, more, skip, parts_of, list_of}
use Rattle.go_typed.specs.Views.{view, views}
use Rattle.go_typed.proofs.Innermost.{count_nodes}
use Rattle.go_typed.proofs.ListPlaces.{get_right, get_left, Behind, get_either}
use Rattle.go_typed.proofs.Nodes.{opened}

-- ---- building

-- What is still to be put into the table of a node of some number.
pub record NodesLeft (number next index : ℕ) (all rest : Typeds ℕ) (first now : List PartPlace) (firsts nows : List ℕ) : Type 0 where
  pub next_is : next + sizes rest ≡ suc number + sizes all
  pub places : first ++ part_places number 0 (suc number) all ≡ now ++ part_places number index next rest
  pub lists : firsts ++ numbers_among (suc number) all ≡ nows ++ numbers_among next rest

-- the numbers of a part are numbers of the node
pub nodes-room : (number next index : ℕ) (all : Typeds ℕ) (p : Typed ℕ) (rest : Typeds ℕ) (first now : List PartPlace) (firsts nows : List ℕ) →
    NodesLeft number next index all (more p rest) first now firsts nows → next + size p ≤ suc number + sizes all
nodes-room number next index all p rest first now firsts nows h = let left : next + (size p + sizes rest) ≡ suc number + sizes all = h.next_is in omega (arith, left)

pub record NodesDone (number next : ℕ) (all : Typeds ℕ) (first now : List PartPlace) (firsts nows : List ℕ) : Type 0 where
  pub next_is : next ≡ suc number + sizes all
  pub places : now ≡ first ++ part_places number 0 (suc number) all
  pub lists : nows ≡ firsts ++ numbers_among (suc number) all

pub nodes-end : (number next index : ℕ) (all : Typeds ℕ) (first now : List PartPlace) (firsts nows : List ℕ) →
    NodesLeft number next index all none first now firsts nows → NodesDone number next all first now firsts nows
nodes-end number next index all first now firsts nows h =
    let e : next + 0 ≡ suc number + sizes all = h.next_is in
    record {
      next_is = omega (arith, e);
      places = sym (h.places ∙ append-nil now);
      lists = sym (h.lists ∙ append-nil nows);
    }

-- what stands within a node, by its parts
pub inner_opened : (k : ℕ) (n : TypedNode) → inner_places k (view n) ≡ part_places k 0 (suc k) (views (out-TypedNode n).parts.items)
inner_opened k n = let P : Typed ℕ → Type 0 = λ x. inner_places k x ≡ part_places k 0 (suc k) (views (out-TypedNode n).parts.items) in subst P (sym (opened n)) refl

pub numbers_opened : (k : ℕ) (n : TypedNode) → list_numbers k (view n) ≡ own_number k (view n) ++ numbers_among (suc k) (views (out-TypedNode n).parts.items)
numbers_opened k n = let P : Typed ℕ → Type 0 = λ x. list_numbers k x ≡ own_number k x ++ numbers_among (suc k) (views (out-TypedNode n).parts.items) in subst P (sym (opened n)) refl

-- ---- reading

-- A place of a table among the nodes: that of the node of this number, behind the one that it is a part of.
pub record StandsThere (all : List (Typed ℕ)) (place : PartPlace) (number : ℕ) : Type 0 where
  pub behind : place.above < number
  pub above : Typed ℕ
  pub above_is : slice_get all place.above ≡ Some above
  pub part : Typed ℕ
  pub part_is : slice_get (list_of (parts_of above)) place.part ≡ Some (Some part)
  pub node_is : slice_get all number ≡ Some part

head_node : (x : Typed ℕ) → slice_get (nodes x) 0 ≡ Some x
head_node (typed f i j l ps) = refl

-- the node behind a list
there : (all pre post : List (Typed ℕ)) (x : Typed ℕ) (n : ℕ) → all ≡ pre ++ (nodes x ++ post) → n ≡ length pre → slice_get all n ≡ Some x
there all pre post x n e h =
    let k : n ≡ length pre + 0 = omega (arith, h) in
    ap (λ l. slice_get l n) e ∙ ap (slice_get (pre ++ (nodes x ++ post))) k ∙ get_right pre (nodes x ++ post) 0 ∙ get_left (nodes x) post 0 x (head_node x)

mutual
  count_inner : (n : ℕ) (x : Typed ℕ) → suc (length (inner_places n x)) ≡ size x
  count_inner n (typed f i j l ps) = ap suc (count_places n 0 (suc n) ps)

  count_places : (above part number : ℕ) (ps : Typeds ℕ) → length (part_places above part number ps) ≡ sizes ps
  count_places above part number none = refl
  count_places above part number (more p ps) =
      let a : suc (length (inner_places number p)) ≡ size p = count_inner number p in
      let b : length (part_places above (suc part) (number + size p) ps) ≡ sizes ps = count_places above (suc part) (number + size p) ps in
      let e : length (inner_places number p ++ part_places above (suc part) (number + size p) ps) ≡ length (inner_places number p) + length (part_places above (suc part) (number + size p) ps)
      = length-append (inner_places number p) (part_places above (suc part) (number + size p) ps) in
      omega (arith, a, b, e)
  count_places above part number (skip ps) = count_places above (suc part) number ps

moved : (all : List (Typed ℕ)) (s : PartPlace) (m n : ℕ) → m ≡ n → StandsThere all s m → StandsThere all s n
moved all s m n e h = subst (λ (k : ℕ). StandsThere all s k) e h

mutual
  inner_stands : (x : Typed ℕ) (all pre post : List (Typed ℕ)) (n k : ℕ) (s : PartPlace) → all ≡ pre ++ (nodes x ++ post) → n ≡ length pre →
      slice_get (inner_places n x) k ≡ Some s → StandsThere all s (suc n + k)
  inner_stands (typed f i j l ps) all pre post n k s e h g =
      let x : Typed ℕ = typed f i j l ps in
      let more_is : all ≡ (pre ++ x ∷ []) ++ (nodes_among ps ++ post) = e ∙ sym (append_assoc pre (x ∷ []) (nodes_among ps ++ post)) in
      let long : length (pre ++ x ∷ []) ≡ length pre + 1 = length-append pre (x ∷ []) in
      parts_stand ps all (pre ++ x ∷ []) post x [] n 0 (suc n) k s more_is (omega (arith, long, h)) (there all pre post x n e h) (omega arith) refl refl g

  -- the parts of a node, behind others
  parts_stand : (ps : Typeds ℕ) (all pre post : List (Typed ℕ)) (y : Typed ℕ) (done : List (Option (Typed ℕ))) (above part number k : ℕ) (s : PartPlace) →
      all ≡ pre ++ (nodes_among ps ++ post) → number ≡ length pre → slice_get all above ≡ Some y → above < number → list_of (parts_of y) ≡ done ++ list_of ps → part ≡ length done →
      slice_get (part_places above part number ps) k ≡ Some s → StandsThere all s (number + k)
  parts_stand none all pre post y done above part number k s e n a b l m g = cc
  parts_stand (more p ps) all pre post y done above part number zero s e n a b l m g =
      let at : number + 0 ≡ number = omega arith in
      let here : all ≡ pre ++ (nodes p ++ (nodes_among ps ++ post)) = e ∙ ap (λ r. pre ++ r) (append_assoc (nodes p) (nodes_among ps) post) in
      let place : part ≡ length done + 0 = omega (arith, m) in
      let first : StandsThere all (record { above = above; part = part }) number = record {
        behind = b;
        above = y;
        above_is = a;
        part = p;
        part_is = ap (λ r. slice_get r part) l ∙ ap (slice_get (done ++ (Some p ∷ list_of ps))) place ∙ get_right done (Some p ∷ list_of ps) 0;
        node_is = there all pre (nodes_among ps ++ post) p number here n;
      } in
      subst (λ (q : PartPlace). StandsThere all q (number + 0)) (same_Some (record { above = above; part = part }) s g) (moved all (record { above = above; part = part }) number (number + 0) (sym at) first)
  parts_stand (more p ps) all pre post y done above part number (suc k) s e n a b l m g =
      let here : all ≡ pre ++ (nodes p ++ (nodes_among ps ++ post)) = e ∙ ap (λ r. pre ++ r) (append_assoc (nodes p) (nodes_among ps) post) in
      let long : length (pre ++ nodes p) ≡ length pre + length (nodes p) = length-append pre (nodes p) in
      let count : length (nodes p) ≡ size p = count_nodes p in
      let one : length (done ++ Some p ∷ []) ≡ length done + 1 = length-append done (Some p ∷ []) in
      let behind : number + size p ≡ length (pre ++ nodes p) = omega (arith, n, long, count) in
      let below : above < number + size p = omega (arith, b) in
      let place : suc part ≡ length (done ++ Some p ∷ []) = omega (arith, m, one) in
      further
      (λ h. inner_stands p all pre (nodes_among ps ++ post) number k s here n h)
      (λ w h. parts_stand ps all (pre ++ nodes p) post y (done ++ Some p ∷ []) above (suc part) (number + size p) w s
      (here ∙ sym (append_assoc pre (nodes p) (nodes_among ps ++ post))) behind a below (l ∙ sym (append_assoc done (Some p ∷ []) (list_of ps))) place h)
      (get_either (inner_places number p) (part_places above (suc part) (number + size p) ps) k s g) where
        further : (slice_get (inner_places number p) k ≡ Some s → StandsThere all s (suc number + k)) →
            ((w : ℕ) → slice_get (part_places above (suc part) (number + size p) ps) w ≡ Some s → StandsThere all s (number + size p + w)) →
            (slice_get (inner_places number p) k ≡ Some s) ⊎ Behind (inner_places number p) (part_places above (suc part) (number + size p) ps) k s → StandsThere all s (number + suc k)
        further f r (inl h) = moved all s (suc number + k) (number + suc k) (omega arith) (f h)
        further f r (inr w) =
            let inside : suc (length (inner_places number p)) ≡ size p = count_inner number p in
            let at : k ≡ length (inner_places number p) + w.place = w.place_is in
            moved all s (number + size p + w.place) (number + suc k) (omega (arith, inside, at)) (r w.place w.there)
  parts_stand (skip ps) all pre post y done above part number k s e n a b l m g =
      let one : length (done ++ None ∷ []) ≡ length done + 1 = length-append done (None ∷ []) in
      parts_stand ps all pre post y (done ++ None ∷ []) above (suc part) number k s e n a b (l ∙ sym (append_assoc done (None ∷ []) (list_of ps))) (omega (arith, m, one)) g

-- the place of the node of some number
pub place-stands : (x : Typed ℕ) (t : NodeTable) (k : ℕ) (s : PartPlace) → IsTableOf x t → slice_get t.places.items k ≡ Some s → StandsThere (nodes x) s (suc k)
place-stands x t k s h g = moved (nodes x) s (1 + k) (suc k) (omega arith) (inner_stands x (nodes x) [] [] 0 k s (sym (append-nil (nodes x))) refl (ap (λ l. slice_get l k) (sym h.places) ∙ g))

-- there are no further nodes
pub no-place : (x : Typed ℕ) (t : NodeTable) (k : ℕ) → IsTableOf x t → length t.places.items ≤ k → slice_get (nodes x) (suc k) ≡ None
no-place x t k h g =
    let a : suc (length (inner_places 0 x)) ≡ size x = count_inner 0 x in
    let b : length t.places.items ≡ length (inner_places 0 x) = ap length h.places in
    let d : length (nodes x) ≡ size x = count_nodes x in
    slice_get_past (nodes x) (suc k) (omega (arith, a, b, d, g))

-- ---- statement lists

own_found : (b : Bool) (all : List (Typed ℕ)) (n : ℕ) (x : Typed ℕ) → slice_get all n ≡ Some x →
    map (slice_get all) (if b then n ∷ [] else []) ≡ map Some (if b then x ∷ [] else [])
own_found true all n x h = ap (λ o. o ∷ []) h
own_found false all n x h = refl

mutual
  lists_found : (x : Typed ℕ) (all pre post : List (Typed ℕ)) (n : ℕ) → all ≡ pre ++ (nodes x ++ post) → n ≡ length pre →
      map (slice_get all) (list_numbers n x) ≡ map Some (statement_lists x)
  lists_found (typed f i j l ps) all pre post n e h =
      let x : Typed ℕ = typed f i j l ps in
      let more_is : all ≡ (pre ++ x ∷ []) ++ (nodes_among ps ++ post) = e ∙ sym (append_assoc pre (x ∷ []) (nodes_among ps ++ post)) in
      let long : length (pre ++ x ∷ []) ≡ length pre + 1 = length-append pre (x ∷ []) in
      map-append (slice_get all) (own_number n x) (numbers_among (suc n) ps)
      ∙ ap (λ r. r ++ map (slice_get all) (numbers_among (suc n) ps)) (own_found (is_statement_list f) all n x (there all pre post x n e h))
      ∙ ap (λ r. map Some (own_list x) ++ r) (among_found ps all (pre ++ x ∷ []) post (suc n) more_is (omega (arith, long, h)))
      ∙ sym (map-append Some (own_list x) (lists_among ps))

  among_found : (ps : Typeds ℕ) (all pre post : List (Typed ℕ)) (n : ℕ) → all ≡ pre ++ (nodes_among ps ++ post) → n ≡ length pre →
      map (slice_get all) (numbers_among n ps) ≡ map Some (lists_among ps)
  among_found none all pre post n e h = refl
  among_found (more p ps) all pre post n e h =
      let here : all ≡ pre ++ (nodes p ++ (nodes_among ps ++ post)) = e ∙ ap (λ r. pre ++ r) (append_assoc (nodes p) (nodes_among ps) post) in
      let long : length (pre ++ nodes p) ≡ length pre + length (nodes p) = length-append pre (nodes p) in
      let count : length (nodes p) ≡ size p = count_nodes p in
      map-append (slice_get all) (list_numbers n p) (numbers_among (n + size p) ps)
      ∙ ap (λ r. r ++ map (slice_get all) (numbers_among (n + size p) ps)) (lists_found p all pre (nodes_among ps ++ post) n here h)
      ∙ ap (λ r. map Some (statement_lists p) ++ r)
      (among_found ps all (pre ++ nodes p) post (n + size p) (here ∙ sym (append_assoc pre (nodes p) (nodes_among ps ++ post))) (omega (arith, h, long, count)))
      ∙ sym (map-append Some (statement_lists p) (lists_among ps))
  among_found (skip ps) all pre post n e h = among_found ps all pre post n e h

-- The nodes of the numbers of a table are the statement lists of the tree.
pub lists-are : (x : Typed ℕ) → map (slice_get (nodes x)) (list_numbers 0 x) ≡ map Some (statement_lists x)
lists-are x = lists_found x (nodes x) [] [] 0 (sym (append-nil (nodes x))) refl

both_at : (x : Typed ℕ) (t : NodeTable) (k : ℕ) → IsTableOf x t → option_map (slice_get (nodes x)) (slice_get t.lists.items k) ≡ option_map Some (slice_get (statement_lists x) k)
both_at x t k h =
    ap (λ l. option_map (slice_get (nodes x)) (slice_get l k)) h.lists
    ∙ sym (slice_get-map (slice_get (nodes x)) (list_numbers 0 x) k)
    ∙ ap (λ l. slice_get l k) (lists-are x)
    ∙ slice_get-map Some (statement_lists x) k

pub list-found : (x : Typed ℕ) (t : NodeTable) (k n : ℕ) → IsTableOf x t → slice_get t.lists.items k ≡ Some n → slice_get (statement_lists x) k ≡ slice_get (nodes x) n
list-found x t k n h g = step (slice_get (statement_lists x) k) (ap (option_map (slice_get (nodes x))) (sym g) ∙ both_at x t k h) where
  step : (o : Option (Typed ℕ)) → Some (slice_get (nodes x) n) ≡ option_map Some o → o ≡ slice_get (nodes x) n
  step None e = cc
  step (Some y) e = sym (same_Some (slice_get (nodes x) n) (Some y) e)

pub no-list : (x : Typed ℕ) (t : NodeTable) (k : ℕ) → IsTableOf x t → slice_get t.lists.items k ≡ None → slice_get (statement_lists x) k ≡ None
no-list x t k h g = step (slice_get (statement_lists x) k) (ap (option_map (slice_get (nodes x))) (sym g) ∙ both_at x t k h) where
  step : (o : Option (Typed ℕ)) → None ≡ option_map Some o → o ≡ None
  step None e = refl
  step (Some y) e = cc

-- ---- what look-ups find

none-found : {A : Type 0} (xs : List A) (k : ℕ) → slice_get xs k ≡ None → length xs ≤ k
none-found [] k e = omega arith
none-found (x ∷ xs) zero e = cc
none-found (x ∷ xs) (suc k) e = let h : length xs ≤ k = none-found xs k e in omega arith

before : (n : ℕ) → (n ≡ 0 → ⊥) → n ≡ suc (n - 1)
before zero h = absurd (h refl)
before (suc n) h = omega arith

-- no place of a table for a node
pub node-absent : (x : Typed ℕ) (t : NodeTable) (n : ℕ) → IsTableOf x t → (n ≡ 0 → ⊥) → slice_get t.places.items (n - 1) ≡ None → slice_get (nodes x) n ≡ None
node-absent x t n h z e = ap (slice_get (nodes x)) (before n z) ∙ no-place x t (n - 1) h (none-found t.places.items (n - 1) e)

-- the place of a table for a node
pub node-placed : (x : Typed ℕ) (t : NodeTable) (n : ℕ) (s : PartPlace) → IsTableOf x t → (n ≡ 0 → ⊥) → slice_get t.places.items (n - 1) ≡ Some s → StandsThere (nodes x) s n
node-placed x t n s h z e = moved (nodes x) s (suc (n - 1)) n (sym (before n z)) (place-stands x t (n - 1) s h e)

-- the parts of a node as it is seen
parts_seen : (ps : List (Option TypedNode)) → list_of (views ps) ≡ map (option_map view) ps
parts_seen [] = refl
parts_seen (None ∷ ps) = ap (λ l. None ∷ l) (parts_seen ps)
parts_seen (Some p ∷ ps) = ap (λ l. Some (view p) ∷ l) (parts_seen ps)

-- A part of a node, found at the place that a table tells: it is the node of the number.
pub part-found : (all : List (Typed ℕ)) (s : PartPlace) (n : ℕ) (above : TypedNode) → StandsThere all s n → slice_get all s.above ≡ Some (view above) →
    slice_get all n ≡ option_map view (part_there (slice_get (out-TypedNode above).parts.items s.part))
part-found all s n above h a = step (slice_get (out-TypedNode above).parts.items s.part) seen where
  same : view above ≡ h.above
  same = same_Some (view above) h.above (sym a ∙ h.above_is)

  seen : option_map (option_map view) (slice_get (out-TypedNode above).parts.items s.part) ≡ Some (Some h.part)
  seen =
      sym (slice_get-map (option_map view) (out-TypedNode above).parts.items s.part)
      ∙ ap (λ l. slice_get l s.part) (sym (parts_seen (out-TypedNode above).parts.items))
      ∙ ap (λ y. slice_get (list_of (parts_of y)) s.part) (sym (opened above) ∙ same)
      ∙ h.part_is

  step : (o : Option (Option TypedNode)) → option_map (option_map view) o ≡ Some (Some h.part) → slice_get all n ≡ option_map view (part_there o)
  step None f = cc
  step (Some None) f = let g : None ≡ Some h.part = same_Some None (Some h.part) f in cc
  step (Some (Some p)) f = h.node_is ∙ sym (same_Some (Some (view p)) (Some h.part) f)

pub mapped-twice : {A B C : Type 0} (f : A → B) (g : B → C) (o : Option A) → option_map g (option_map f o) ≡ option_map (λ x. g (f x)) o
mapped-twice f g None = refl
mapped-twice f g (Some x) = refl

-- the node above is there
pub above-found : (all : List (Typed ℕ)) (s : PartPlace) (n : ℕ) → StandsThere all s n → slice_get all s.above ≡ None → ⊥
above-found all s n h e = none-some h.above (sym e ∙ h.above_is)
