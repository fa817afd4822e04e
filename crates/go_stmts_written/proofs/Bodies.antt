-- The functions of a package, where the names of its declarations are spelled so.
use Rattle.std.proofs.Common.{◌≡◌, ℕ, zero, suc, ◌+◌, ◌-◌, ◌<◌, ◌≤◌, Bool, true, false, List, [], ◌∷◌, ◌++◌, length, None, Result, Ok, Err, refl, sym, ap, subst, ◌∙◌, arith}
use Rattle.std.specs.Prelude.{slice_get, replicate, if◌then◌else◌}
use Rattle.std.specs.List.{AllByRecursion}
use Rattle.go_base.specs.Gives.{◌>>=◌}
use Rattle.go_grammar.specs.declared.kind.Kind.{Kind}
use Rattle.go_grammar.specs.declared.kind.Kind.TheVariants as kind
use Rattle.go_grammar.specs.declared.kind.Sort.TheVariants as sort
use Rattle.go_grammar.specs.Trees.{Tree, node, Trees, none, more, skip, first, last}
use Rattle.go_tree.specs.declared.context.Entity.{Entity}
use Rattle.go_tree.specs.declared.object.Object.{Object}
use Rattle.go_types.specs.Trees.{TypeTree}
use Rattle.go_types.specs.Relations.{Rights, HasRight}
use Rattle.go_exprs_rules.specs.declared.fault.TypeFault.{TypeFault}
use Rattle.go_exprs_rules.specs.Faults.{reported}
use Rattle.go_exprs_rules.specs.Scopes.{Needed, Scope, free}
use Rattle.go_scopes_events.proofs.Public.{IsLaidOut, LieIn, behind_name, laid_grows, lie_order}
use Rattle.go_stmts_defs.specs.Bodies.{based, all_based, start, signature_of, function_read}
use Rattle.go_stmts_defs.specs.Reading.{Reading, read, reading}
use Rattle.go_package_defs.specs.Bodies.{Surroundings, Behind, Functions, Portion, scope_of, stands_among, text_there, texts_from, portion_of, based_tree, behind_read, function_over, function_with, placed, typed_function, types_in, functions_from, is_this, those_of, with_function, count_types, local_type}
use Rattle.go_package_defs.specs.Declarations.{Specification}
use Rattle.go_package_defs.specs.Sources.{Package, text_at}
use Rattle.go_print_laws.specs.Lexemes.{IsName}
use Rattle.go_stmts_written.specs.Named.{IsNamed, StandsIsNamed, RightsAreNamed, FunctionIsNamed, AllFunctionsNamed, NodeIsNamed, TreeIsNamed, TreesAreNamed}
use Rattle.go_stmts_written.proofs.Around.{ScopeIsNamed}
use Rattle.go_stmts_written.proofs.Frames.{started}
use Rattle.go_stmts_written.proofs.Functions.{judged_ok, read_named}
use Rattle.go_stmts_written.proofs.Reading.{ReadNamed, reading_named}
use Rattle.go_stmts_written.proofs.Rounds.{Holds}

-- ---- trees whose tokens are counted from their first one

there : (p : Package) (n t k i : ℕ) → i < k → text_there (slice_get (texts_from p n t k) i) ≡ text_at p n (t + i)
there p n t zero i l = absurd (omega (arith, l))
there p n t (suc k) zero l = ap (text_at p n) (let z : t ≡ t + 0 = omega arith in z)
there p n t (suc k) (suc i) l = there p n (suc t) k i (omega (arith, l)) ∙ ap (text_at p n) (let z : suc t + i ≡ t + suc i = omega arith in z)

module _ (p : Package) (n b e : ℕ) where
  abbrev own : ℕ → List ℕ
  own i = text_there (slice_get (texts_from p n b (e - b)) i)

  own_text : (i : ℕ) → b ≤ i → i < e → own (i - b) ≡ text_at p n i
  own_text i l m = there p n b (e - b) (i - b) (omega (arith, l, m)) ∙ ap (text_at p n) (let z : b + (i - b) ≡ i = omega (arith, l) in z)

  node_based : (k : Kind) (i : ℕ) → b ≤ i → i < e → NodeIsNamed (text_at p n) k i → NodeIsNamed own k (i - b)
  node_based kind.DeclaredName i l m h = subst IsName (sym (own_text i l m)) h
  node_based k i l m h = tt

  behind_from : (k : Kind) (i : ℕ) → i ≤ behind_name k i
  behind_from kind.FunctionDeclaration i = omega arith
  behind_from (kind.Specification sort.Type) i = omega arith
  behind_from kind.DeclaredName i = omega arith
  behind_from kind.Name i = omega arith
  behind_from k i = omega arith

  mutual
    based_named : (t : Tree) → b ≤ first t → last t ≤ e → IsLaidOut t → TreeIsNamed (text_at p n) t → TreeIsNamed own (based b t)
    based_named (node k i j ps) l m d h =
        let behind = behind_from k i in
        let grows = d.0 in
        (node_based k i l (omega (arith, grows, m)) h.0, all_based_named (behind_name k i) j ps (omega (arith, l, behind)) m d.1 h.1)

    all_based_named : (i j : ℕ) (ps : Trees) → b ≤ i → j ≤ e → LieIn i j ps → TreesAreNamed (text_at p n) ps → TreesAreNamed own (all_based b ps)
    all_based_named i j none l m d h = tt
    all_based_named i j (more q ps) l m d h =
        let from = d.0 in
        let upto = lie_order (last q) j ps d.2 in
        let grows = laid_grows q d.1 in
        (based_named q (omega (arith, l, from)) (omega (arith, upto, m)) d.1 h.0, all_based_named (last q) j ps (omega (arith, l, from, grows)) m d.2 h.1)
    all_based_named i j (skip ps) l m d h = all_based_named i j ps l m d h

-- ---- results

placed_ok : {A : Type 0} (p : Package) (d : Specification) (r : Result A TypeFault) (x : A) → placed p d r ≡ Ok x → r ≡ Ok x
placed_ok p d (Ok y) x e = ap Ok (let same : y ≡ x = cc in same)
placed_ok p d (Err g) x e = cc

pub bound : {A B F : Type 0} (r : Result A F) (f : A → Result B F) (y : B) → (r >>= f) ≡ Ok y → (x : A) × (r ≡ Ok x) × (f x ≡ Ok y)
bound (Ok x) f y e = (x, refl, e)
bound (Err g) f y e = cc

pub ok_same : {A F : Type 0} (x y : A) → (let r : Result A F = Ok x in r) ≡ Ok y → x ≡ y
ok_same x y e = cc

-- ---- right sides

more_named : (rs qs : Rights) → RightsAreNamed rs → RightsAreNamed qs → RightsAreNamed (rs ++ qs)
more_named [] qs h g n r e = g n r e
more_named (x ∷ rs) qs h g zero r e = h zero r e
more_named (x ∷ rs) qs h g (suc n) r e = more_named rs qs (λ m. h (suc m)) g n r e

none_has : (k n : ℕ) (r : TypeTree) → HasRight (replicate k None) n r → IsNamed r
none_has zero n r h = absurd cc
none_has (suc k) zero r h = absurd cc
none_has (suc k) (suc n) r h = none_has k n r h

-- ---- a function

record BehindNamed (b : Behind) : Type 0 where
  function : FunctionIsNamed b.function
  rights : RightsAreNamed b.rights

module _ (p : Package) (a : Surroundings) (objects : (n : Needed) (o : Object) → StandsIsNamed (stands_among a.objects n o)) where
  behind_named : (texts : ℕ → List ℕ) (s : Scope) (number : ℕ) (t : Tree) (r : Reading) (b : Behind) → ScopeIsNamed texts s → TreeIsNamed texts t → behind_read s number t r ≡ Ok b → ReadNamed texts r → BehindNamed b
  behind_named texts s number t (read x fs f) b h n e w =
      subst BehindNamed (judged_ok (reported fs) (record { function = function_read s number (last t) (signature_of s t) x f; rights = f.around.rights }) b e)
      (record { function = read_named texts s h number t x f n w.0 w.1; rights = w.1.rights })

  over_named : (rights : Rights) (number : ℕ) (bs : List Bool) (o : Portion) (t : Tree) (b : Behind) → RightsAreNamed rights → TreeIsNamed (λ i. text_there (slice_get o.texts i)) t
      → function_over a rights number bs o t ≡ Ok b → BehindNamed b
  over_named rights number bs o t b h n e =
      let texts : ℕ → List ℕ = λ i. text_there (slice_get o.texts i) in
      let s = scope_of a (rights ++ replicate (count_types bs) None) o in
      let types = local_type (length rights) bs in
      let z = start s (length bs) types in
      let w : ScopeIsNamed texts s = record { same = refl; rights = more_named rights (replicate (count_types bs) None) h (none_has (count_types bs)); objects = objects } in
      behind_named texts s number t (reading z free t) b w n e (reading_named texts z free t (started texts s (length bs) types w) n tt)

  typed_named : (rights : Rights) (number : ℕ) (d : Specification) (b : Behind) → RightsAreNamed rights → Holds p d → typed_function p a rights number d ≡ Ok b → BehindNamed b
  typed_named rights number d b h g e =
      let x = g.placed in
      let over : function_over a rights number (types_in p number) (portion_of p d) (based d.first x.tree) ≡ Ok b =
      sym (ap (λ o. function_with a rights number (types_in p number) (portion_of p d) (based_tree d.first o)) x.is) ∙ e in
      let begins = x.begins in
      let ends = x.ends in
      over_named rights number (types_in p number) (portion_of p d) (based d.first x.tree) b h
      (based_named p d.file d.first d.last x.tree (omega (arith, begins)) (omega (arith, ends)) x.laid x.named) over

  -- ---- one behind the other

  pub record AllRead (fs : Functions) : Type 0 where
    pub functions : AllFunctionsNamed fs.functions
    pub rights : RightsAreNamed fs.rights

  pub functions_named : (rights : Rights) (n : ℕ) (ds : List Specification) (fs : Functions) → RightsAreNamed rights → AllByRecursion (Holds p) ds → functions_from p a rights n ds ≡ Ok fs → AllRead fs
  functions_named rights n [] fs h g e = subst AllRead (ok_same (record { functions = []; rights = rights }) fs e) (record { functions = tt; rights = h })
  functions_named rights n (d ∷ ds) fs h g e =
      let b = bound (placed p d (typed_function p a rights n d)) (λ b. functions_from p a b.rights (suc n) ds >>= λ gs. Ok (with_function b.function gs)) fs e in
      let gs = bound (functions_from p a b.0.rights (suc n) ds) (λ gs. Ok (with_function b.0.function gs)) fs b.2 in
      let own = typed_named rights n d b.0 h g.0 (placed_ok p d (typed_function p a rights n d) b.0 b.1) in
      let rest = functions_named b.0.rights (suc n) ds gs.0 own.rights g.1 gs.1 in
      subst AllRead (ok_same (with_function b.0.function gs.0) fs gs.2) (record { functions = (own.function, rest.functions); rights = rest.rights })

-- those of one sort
pub some_of : (p : Package) (e : Entity) (ds : List Specification) → AllByRecursion (Holds p) ds → AllByRecursion (Holds p) (those_of e ds)
some_of p e [] h = tt
some_of p e (d ∷ ds) h = by (is_this e d.entity) (some_of p e ds h.1)
  where
    by : (b : Bool) → AllByRecursion (Holds p) (those_of e ds) → AllByRecursion (Holds p) (if b then d ∷ those_of e ds else those_of e ds)
    by true g = (h.0, g)
    by false g = g
