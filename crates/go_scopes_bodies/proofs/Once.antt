-- No name is declared twice in a block: function by function.
use Rattle.std.proofs.Common.{◌≡◌, ◌∙◌, ℕ, suc, ◌+◌, ◌<◌, ◌≤◌, ◌⊎◌, inl, inr, Bool, true, false, List, [], ◌∷◌, ◌++◌, map, Some, refl, sym, ap, subst, append_assoc, arith}
use Rattle.std.specs.Prelude.{if◌then◌else◌, ◌&&◌, not, nat_eq, slice_get}
use Rattle.std.proofs.lemmas.Bool.Decides.{nat_tests}
use Rattle.go_tokens.specs.Tokens.{TokenList, kinds}
use Rattle.go_grammar.specs.declared.kind.Category.TheVariants as category
use Rattle.go_grammar.specs.Trees.{Tree, node, Trees, none, more, skip, kind_of, first, last, parts}
use Rattle.go_rewriting.specs.Lists.{InOrder, Ordered}
use Rattle.go_rewriting.proofs.Public.{tree_order, derives_ordered}
use Rattle.go_tree.specs.declared.context.Block.{Block}
use Rattle.go_tree.specs.declared.context.Block.TheVariants as block
use Rattle.go_tree.specs.declared.event.Event.{Event}
use Rattle.go_tree.specs.declared.event.Event.TheVariants as event
use Rattle.go_tree.specs.Contexts.{is_package}
use Rattle.go_tree.specs.Declarations.{Found, are_one_block, same_block, found, found_in, found_from, new_among, declarations}
use Rattle.go_tree.specs.Lists.{is_function, functions}
use Rattle.go_tree.specs.Redeclared.{has_clash, second_declarations}
use Rattle.go_scopes_events.specs.Orders.{EachDeclared, IsOuter}
use Rattle.go_heads.specs.Functions.{Function, AreRead, Alone, alone, function_alone, functions_in}
use Rattle.go_heads.specs.Heads.{File, IsRead, in_bodies}
use Rattle.go_heads.specs.Objects.{units_of}
use Rattle.go_heads.specs.Told.{file_events}
use Rattle.go_heads.proofs.Public.{In, every_map, new_append, Stands, AllStand, file_stands, found_append, Every, every_append, every_new, Shared}
use Rattle.go_heads.specs.Bodies.{function_events}
use Rattle.go_heads.specs.Names.{own_text, own_names, own_declarations, found_by, in_file}
use Rattle.go_heads.proofs.Public as bodies
use Rattle.go_scopes_bodies.specs.Faults.{shared}
use Rattle.go_scopes_bodies.proofs.Clashes.{NoClash, nothing_behind, one_apart, second_both, front_apart, within, kept, kept_both, is_local, shared_clash, local_clash, shared_and_local, up_from, up_to}
use Rattle.go_scopes_bodies.proofs.Pieces.{Piece, around, function, told_by, trees_of, AroundShared, file_pieces}
use Rattle.go_scopes_bodies.proofs.Each.{Iff, EachOwn}
use Rattle.go_scopes_bodies.proofs.Lists.{none_both}
use Rattle.go_scopes_bodies.proofs.Rules.{told_in}

-- No name of the function is declared twice in a block, by itself.
abbrev pub DeclaresOnce : ℕ → Function → Type 0
DeclaresOnce n f = second_declarations [] (own_declarations (function_alone f)) ≡ []

found_own : (w : ℕ → List ℕ) (es : List Event) → Every (λ d. d.file ≡ 0) (found_by w es)
found_own w [] = tt
found_own w (event.Declaration d ∷ es) = (refl, found_own w es)
found_own w (event.Import i ∷ es) = found_own w es
found_own w (event.Use u ∷ es) = found_own w es
found_own w (event.Member m g i ∷ es) = found_own w es
found_own w (event.Bodiless i j ∷ es) = found_own w es
found_own w (event.Statement i j ∷ es) = found_own w es
found_own w (event.Misplaced i j ∷ es) = found_own w es
found_own w (event.SecondDefault i ∷ es) = found_own w es

pub own_files : (a : Alone) → Every (λ d. d.file ≡ 0) (own_declarations a)
own_files a = every_new (λ d. d.file ≡ 0) (own_names a) (own_names a) (found_own (own_text a) (function_events a))

-- ---- blocks in order

-- in no block of the file n that begins from the token lo on, and in none of a later file
abbrev pub Front : ℕ → ℕ → Found → Type 0
Front n lo x = (m y : ℕ) → (n < m) ⊎ ((m ≡ n) × (lo ≤ y)) → are_one_block m (block.Local y) x.file x.it.block ≡ false

pub record InSeg (n lo hi : ℕ) (d : Found) : Type 0 where
  pub file : d.file ≡ n
  pub block : In lo hi d.it.block
  pub is : is_local d ≡ true

front_later : (n lo hi : ℕ) (x : Found) → lo ≤ hi → Front n lo x → Front n hi x
front_later n lo hi x le h m y (inl lt) = h m y (inl lt)
front_later n lo hi x le h m y (inr e) = h m y (inr (e.0, omega (arith, le, e.1)))

front_next : (n lo : ℕ) (x : Found) → Front n lo x → Front (suc n) 0 x
front_next n lo x h m y (inl lt) = h m y (inl (omega (arith, lt)))
front_next n lo x h m y (inr e) = h m y (inl (omega (arith, e.0)))

seg_front : (n lo hi : ℕ) (x : Found) → InSeg n lo hi x → Front n hi x
seg_front n lo hi x h m y g = by x.it.block h.block
  where
    both : (i : ℕ) → i < hi → (n < m) ⊎ ((m ≡ n) × (hi ≤ y)) → (nat_eq m x.file && nat_eq y i) ≡ false
    both i lt (inl less) = let e : nat_eq m x.file ≡ false = let f : x.file ≡ n = h.file in grind (arith, nat_tests) in ap (λ b. b && nat_eq y i) e
    both i lt (inr e) = let f : nat_eq y i ≡ false = let a : hi ≤ y = e.1 in grind (arith, nat_tests) in second (nat_eq m x.file) (nat_eq y i) f
      where
        second : (b c : Bool) → c ≡ false → (b && c) ≡ false
        second true c e = e
        second false c e = refl

    by : (b : Block) → In lo hi b → are_one_block m (block.Local y) x.file b ≡ false
    by block.Package k = refl
    by (block.Local i) k = both i k.1 g

seg_apart : (n lo hi : ℕ) (d : Found) (b : List Found) → InSeg n lo hi d → Every (Front n lo) b → has_clash d b ≡ false
seg_apart n lo hi d b h g = one_apart d b (every_map (Front n lo) (λ x. same_block d x ≡ false) b (λ x f. by x f d.it.block h.block h.is) g)
  where
    by : (x : Found) → Front n lo x → (c : Block) → In lo hi c → not (is_package c) ≡ true → are_one_block d.file c x.file x.it.block ≡ false
    by x f block.Package k e = cc
    by x f (block.Local y) k e = f d.file y (inr (h.file, k.0))

-- ---- functions in order

abbrev pub Ascends : ℕ → List Tree → Type 0
Ascends lo [] = Unit {0}
Ascends lo (t ∷ ts) = (lo ≤ first t) × (first t ≤ last t) × Ascends (last t) ts

ascends_from : (lo hi : ℕ) (ts : List Tree) → lo ≤ hi → Ascends hi ts → Ascends lo ts
ascends_from lo hi [] le h = tt
ascends_from lo hi (t ∷ ts) le h = (omega (arith, le, h.0), h.1, h.2)

functions_ascend : (ds : Trees) (lo j : ℕ) → Ordered lo ds j → Ascends lo (functions ds)
functions_ascend none lo j o = tt
functions_ascend (skip ds) lo j o = functions_ascend ds lo j o
functions_ascend (more d ds) lo j o =
    let lt : first d < last d = tree_order d o.1 in
    by (is_function (kind_of d)) lt (functions_ascend ds (last d) j o.2)
  where
    by : (b : Bool) → first d < last d → Ascends (last d) (functions ds) → Ascends lo (if b then d ∷ functions ds else functions ds)
    by true lt h = (o.0, omega (arith, lt), h)
    by false lt h = ascends_from lo (last d) (functions ds) (omega (arith, o.0, lt)) h

-- ---- what a file declares

module _ (all : List File) where
  abbrev among : List Found
  among = found (units_of all)

  abbrev new_in : ℕ → TokenList → List Event → List Found
  new_in n l es = new_among among (found_in n l es)

  abbrev pub locals_in : ℕ → TokenList → List Event → List Found
  locals_in n l es = kept is_local (new_in n l es)

  pub locals_both : (n : ℕ) (l : TokenList) (es fs : List Event) → locals_in n l (es ++ fs) ≡ locals_in n l es ++ locals_in n l fs
  locals_both n l es fs =
      ap (λ ds. kept is_local (new_among among ds)) (found_append n l es fs)
      ∙ ap (kept is_local) (new_append among (found_in n l es) (found_in n l fs))
      ∙ kept_both is_local (new_in n l es) (new_in n l fs)

  none_kept : (ds : List Found) → Every (λ d. is_local d ≡ false) ds → kept is_local ds ≡ []
  none_kept [] h = refl
  none_kept (d ∷ ds) h = ap (λ b. if b then d ∷ kept is_local ds else kept is_local ds) h.0 ∙ none_kept ds h.1

  shared_found : (n : ℕ) (l : TokenList) (es : List Event) → EachDeclared Shared es → Every (λ d. is_local d ≡ false) (found_in n l es)
  shared_found n l [] h = tt
  shared_found n l (event.Declaration d ∷ es) h = (by d.block h.0, shared_found n l es h.1)
    where
      by : (b : Block) → IsOuter b → not (is_package b) ≡ false
      by block.Package h = refl
      by (block.Local i) h = absurd h
  shared_found n l (e ∷ es) h = shared_found n l es h

  pub around_none : (n : ℕ) (l : TokenList) (es : List Event) → EachDeclared Shared es → locals_in n l es ≡ []
  around_none n l es h = none_kept (new_in n l es) (every_new (λ d. is_local d ≡ false) among (found_in n l es) (shared_found n l es h))

  blocks_found : (n : ℕ) (l : TokenList) (lo hi : ℕ) (es : List Event) → EachDeclared (λ d. In lo hi d.block) es → Every (λ d. (d.file ≡ n) × In lo hi d.it.block) (found_in n l es)
  blocks_found n l lo hi [] h = tt
  blocks_found n l lo hi (event.Declaration d ∷ es) h = ((refl, h.0), blocks_found n l lo hi es h.1)
  blocks_found n l lo hi (e ∷ es) h = blocks_found n l lo hi es h

  kept_seg : (n lo hi : ℕ) (ds : List Found) → Every (λ d. (d.file ≡ n) × In lo hi d.it.block) ds → Every (InSeg n lo hi) (kept is_local ds)
  kept_seg n lo hi [] h = tt
  kept_seg n lo hi (d ∷ ds) h = by (is_local d) refl (kept_seg n lo hi ds h.1)
    where
      by : (b : Bool) → is_local d ≡ b → Every (InSeg n lo hi) (kept is_local ds) → Every (InSeg n lo hi) (if b then d ∷ kept is_local ds else kept is_local ds)
      by true e g = (record { file = h.0.0; block = h.0.1; is = e }, g)
      by false e g = g

  module _ (n : ℕ) (f : File) (r : IsRead f) (there : slice_get all n ≡ Some f) where
    abbrev l : TokenList
    l = f.tokens

    abbrev StandIn : List Tree → Type 0
    StandIn ts = AllStand (kinds f.tokens.tokens) (in_bodies (parts f.tree)) (last f.tree) (file_events f) ts

    abbrev StandsIn : Tree → Type 0
    StandsIn t = Stands (kinds f.tokens.tokens) (in_bodies (parts f.tree)) (last f.tree) (file_events f) t

    abbrev in_f : Tree → Function
    in_f t = record { file = f; tree = t }

    own_up : (t : Tree) → StandsIn t → new_in n l (told_in f t) ≡ map (in_file n l (first t)) (own_declarations (alone l t))
    own_up t s = (bodies.declares all n f r there t s).declared

    segment : (t : Tree) → StandsIn t → Every (InSeg n (first t) (last t)) (locals_in n l (told_in f t))
    segment t s = kept_seg n (first t) (last t) (new_in n l (told_in f t)) (every_new (λ d. (d.file ≡ n) × In (first t) (last t) d.it.block) among (found_in n l (told_in f t)) (blocks_found n l (first t) (last t) (told_in f t) s.blocks))

    segment_clash : (t : Tree) → StandsIn t → DeclaresOnce n (in_f t) → NoClash [] (locals_in n l (told_in f t))
    segment_clash t s e =
        ap (λ ds. second_declarations [] (kept is_local ds)) (own_up t s)
        ∙ local_clash (map (in_file n l (first t)) (own_declarations (alone l t))) (up_from n l (first t) [] (own_declarations (alone l t)) tt (own_files (alone l t)) e)

    pieces_clash : (ps : List Piece) (lo : ℕ) (b rest : List Found) → AroundShared ps → Ascends lo (trees_of ps) → StandIn (trees_of ps) → Every (DeclaresOnce n) (map in_f (trees_of ps))
        → Every (Front n lo) b → ((c : List Found) (hi : ℕ) → Every (Front n hi) c → NoClash c rest) → NoClash b (locals_in n l (told_by (told_in f) ps) ++ rest)
    pieces_clash [] lo b rest x y z w h go = go b lo h
    pieces_clash (around es ∷ ps) lo b rest x y z w h go =
        ap (λ ds. second_declarations b (ds ++ rest)) (locals_both n l es (told_by (told_in f) ps) ∙ ap (λ ds. ds ++ locals_in n l (told_by (told_in f) ps)) (around_none n l es x.0))
        ∙ pieces_clash ps lo b rest x.1 y z w h go
    pieces_clash (function t ∷ ps) lo b rest x y z w h go =
        let seg : List Found = locals_in n l (told_in f t) in
        let others : List Found = locals_in n l (told_by (told_in f) ps) in
        let before : Every (Front n (first t)) b = every_map (Front n lo) (Front n (first t)) b (λ d. front_later n lo (first t) d y.0) h in
        let in_seg : Every (InSeg n (first t) (last t)) seg = segment t z.0 in
        let clear : Every (λ d. has_clash d b ≡ false) seg = every_map (InSeg n (first t) (last t)) (λ d. has_clash d b ≡ false) seg (λ d g. seg_apart n (first t) (last t) d b g before) in_seg in
        let here : NoClash b seg = ap (λ c. second_declarations c seg) (sym (nothing_behind b)) ∙ front_apart b [] seg clear (segment_clash t z.0 w.0) in
        let after : Every (Front n (last t)) (b ++ seg) =
        every_append (Front n (last t)) b seg (every_map (Front n (first t)) (Front n (last t)) b (λ d. front_later n (first t) (last t) d y.1) before)
        (every_map (InSeg n (first t) (last t)) (Front n (last t)) seg (seg_front n (first t) (last t)) in_seg) in
        ap (λ ds. second_declarations b (ds ++ rest)) (locals_both n l (told_in f t) (told_by (told_in f) ps))
        ∙ ap (second_declarations b) (append_assoc seg others rest)
        ∙ second_both b seg (others ++ rest)
        ∙ none_both (second_declarations b seg) (second_declarations (b ++ seg) (others ++ rest)) here (pieces_clash ps (last t) (b ++ seg) rest x y.2 z.1 w.1 after go)

    file_clash : (b rest : List Found) → Every (DeclaresOnce n) (functions_in f) → Every (Front n 0) b → ((c : List Found) (hi : ℕ) → Every (Front n hi) c → NoClash c rest) → NoClash b (locals_in n l (file_events f) ++ rest)
    file_clash b rest w h go =
        let p = file_pieces (kinds f.tokens.tokens) f.tree r.tree in
        let o : Ascends 0 (functions (parts f.tree)) = ascends_from 0 (first f.tree) (functions (parts f.tree)) (omega arith) (order f.tree (derives_ordered (kinds f.tokens.tokens) f.tree category.File r.tree.derives)) in
        ap (λ es. second_declarations b (locals_in n l es ++ rest)) p.whole
        ∙ pieces_clash p.pieces 0 b rest p.shared (subst (Ascends 0) p.trees o) (subst StandIn p.trees (file_stands (kinds f.tokens.tokens) f.tree r.tree)) (subst (λ ts. Every (DeclaresOnce n) (map in_f ts)) p.trees w) h go
      where
        order : (t : Tree) → InOrder t → Ascends (first t) (functions (parts t))
        order (node k i j ps) h = functions_ascend ps i j h.1

    -- the names of a function are declared once where those of the package are
    own_once : (t : Tree) → StandsIn t → NoClash [] (declarations (units_of all)) → DeclaresOnce n (in_f t)
    own_once t s e =
        let before : List Found = bodies.before all n f r there t s in
        let behind : List Found = bodies.behind all n f r there t s in
        let names : List Found = map (in_file n l (first t)) (found_by (own_text (alone l t)) (function_events (alone l t))) in
        let own : List Found = map (in_file n l (first t)) (own_declarations (alone l t)) in
        let mine : new_among among names ≡ own = ap (new_among among) (sym (bodies.names_moved all n f r there t s)) ∙ own_up t s in
        let whole : declarations (units_of all) ≡ new_among among before ++ (own ++ new_among among behind) =
        ap (new_among among) (bodies.all_names all n f r there t s)
        ∙ new_append among before (names ++ behind)
        ∙ ap (λ ds. new_among among before ++ ds) (new_append among names behind ∙ ap (λ ds. ds ++ new_among among behind) mine) in
        up_to n l (first t) [] (own_declarations (alone l t)) tt (own_files (alone l t)) (within (new_among among before) own (new_among among behind) (ap (second_declarations []) (sym whole) ∙ e))

    all_once : (ts : List Tree) → StandIn ts → NoClash [] (declarations (units_of all)) → Every (DeclaresOnce n) (map in_f ts)
    all_once [] s e = tt
    all_once (t ∷ ts) s e = (own_once t s.0 e, all_once ts s.1 e)

  files_clash : (n : ℕ) (fs : List File) → ((k : ℕ) → slice_get all (n + k) ≡ slice_get fs k) → AreRead fs → EachOwn DeclaresOnce n fs → (b : List Found) → Every (Front n 0) b → NoClash b (kept is_local (new_among among (found_from n (units_of fs))))
  files_clash n [] there h w b g = refl
  files_clash n (f ∷ fs) there h w b g =
      let z : n ≡ n + 0 = omega arith in
      let next : (i : ℕ) → suc n + i ≡ n + suc i = λ i. omega arith in
      let rest : List Found = kept is_local (new_among among (found_from (suc n) (units_of fs))) in
      ap (λ ds. second_declarations b (kept is_local ds)) (new_append among (found_in n f.tokens (file_events f)) (found_from (suc n) (units_of fs)))
      ∙ ap (second_declarations b) (kept_both is_local (new_in n f.tokens (file_events f)) (new_among among (found_from (suc n) (units_of fs))))
      ∙ file_clash n f h.0 (ap (slice_get all) z ∙ there 0) b rest w.0 g
      (λ c hi front. files_clash (suc n) fs (λ i. ap (slice_get all) (next i) ∙ there (suc i)) h.1 w.1 c (every_map (Front n hi) (Front (suc n) 0) c (λ d. front_next n hi d) front))

  files_once : (n : ℕ) (fs : List File) → ((k : ℕ) → slice_get all (n + k) ≡ slice_get fs k) → AreRead fs → NoClash [] (declarations (units_of all)) → EachOwn DeclaresOnce n fs
  files_once n [] there h e = tt
  files_once n (f ∷ fs) there h e =
      let z : n ≡ n + 0 = omega arith in
      let next : (i : ℕ) → suc n + i ≡ n + suc i = λ i. omega arith in
      (all_once n f h.0 (ap (slice_get all) z ∙ there 0) (functions (parts f.tree)) (file_stands (kinds f.tokens.tokens) f.tree h.0.tree) e, files_once (suc n) fs (λ i. ap (slice_get all) (next i) ∙ there (suc i)) h.1 e)

-- No name is declared twice in a block of the package's where none is in the block of the package, and none in a function by itself.
pub declared_once_by_functions : (fs : List File) → AreRead fs
    → Iff (second_declarations [] (declarations (units_of fs)) ≡ []) ((second_declarations [] (shared (declarations (units_of fs))) ≡ []) × EachOwn DeclaresOnce 0 fs)
declared_once_by_functions fs h =
    let z : (k : ℕ) → slice_get fs (0 + k) ≡ slice_get fs k = λ k. let e : 0 + k ≡ k = omega arith in ap (slice_get fs) e in
    record {
      to = λ e. (shared_clash (declarations (units_of fs)) e, files_once fs 0 fs z h e);
      from = λ e. shared_and_local (declarations (units_of fs)) e.0 (files_clash fs 0 fs z h e.1 [] tt);
    }
