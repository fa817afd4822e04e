-- The portion of a function is what the function is by itself, with what its tokens mean.
use Rattle.std.proofs.Common.{◌≡◌, ℕ, zero, suc, ◌-◌, List, ◌∷◌, Option, Some, refl, sym, ap, ◌∙◌}
use Rattle.go_grammar.specs.Trees.{Tree, node, Trees, none, more, skip, first}
use Rattle.go_rewriting.specs.Places.{carry, carries}
use Rattle.go_tree.specs.declared.object.Object.{Object}
use Rattle.go_types.specs.Relations.{Rights}
use Rattle.go_stmts_defs.specs.Bodies.{based, all_based}
use Rattle.go_tree.specs.Units.{word}
use Rattle.go_heads.specs.Functions as by_heads
use Rattle.go_heads.specs.Functions.{Function, Alone, AreRead, KeepsFunctions, all_functions, body_texts, function_alone}
use Rattle.go_package_defs.specs.Bodies.{Portion, Surroundings, texts_from, based_tree, portion_of, function_of, types_in, typed_function}
use Rattle.go_package_defs.specs.Declarations.{Specification}
use Rattle.go_package_defs.specs.Sources.{Package, tokens_in}
use Rattle.go_heads_types.specs.Portions.{files_of, AreNamed, SamePortion, SameBody, KeepsPortions, function_specifications}
use Rattle.go_heads_types.proofs.Specifications.{IsOf, all_of, of_count, of_at}

module _ (b : ℕ) where
  mutual
    based_carried : (t : Tree) → based b t ≡ carry (λ n. n - b) t
    based_carried (node k i j ps) = ap (λ qs. node k (i - b) (j - b) qs) (all_carried ps)

    all_carried : (ps : Trees) → all_based b ps ≡ carries (λ n. n - b) ps
    all_carried none = refl
    all_carried (more t ts) = ap (λ x. more x (all_based b ts)) (based_carried t) ∙ ap (λ x. more (carry (λ n. n - b) t) x) (all_carried ts)
    all_carried (skip ts) = ap skip (all_carried ts)

texts_by : (p : Package) (n t k : ℕ) → texts_from p n t k ≡ by_heads.texts_from (tokens_in p n) t k
texts_by p n t zero = refl
texts_by p n t (suc k) = ap (λ l. word (tokens_in p n) t ∷ l) (texts_by p n (suc t) k)

portion_texts : (p : Package) (d : Specification) (f : Function) → IsOf p d f → (portion_of p d).texts ≡ (function_alone f).texts
portion_texts p d f h =
    texts_by p d.file d.first (d.last - d.first)
    ∙ ap (λ l. by_heads.texts_from l d.first (d.last - d.first)) h.tokens
    ∙ ap (λ i. by_heads.texts_from f.file.tokens i (d.last - i)) h.first
    ∙ ap (λ j. by_heads.texts_from f.file.tokens (first f.tree) (j - first f.tree)) h.last

portion_tree : (p : Package) (d : Specification) (f : Function) → IsOf p d f → (portion_of p d).tree ≡ Some (function_alone f).tree
portion_tree p d f h = ap (based_tree d.first) h.tree ∙ ap (λ i. Some (based i f.tree)) h.first ∙ ap (λ t. Some t) (based_carried (first f.tree) f.tree)

abbrev made : List (List ℕ) → List (Option Object) → Option Tree → Portion
made ws os t = record { texts = ws; objects = os; tree = t }

pub one_portion : (x y : Portion) → SamePortion x y → y.objects ≡ x.objects → y ≡ x
one_portion x y h e = ap (λ ws. made ws y.objects y.tree) h.texts ∙ ap (λ os. made x.texts os y.tree) e ∙ ap (λ t. made x.texts x.objects t) h.tree

module _ (p q : Package) (names others : List (List ℕ)) (a : AreNamed names p.sources) (b : AreNamed others q.sources) (k : KeepsFunctions (files_of names p.sources) (files_of others q.sources)) where
  portion_same : (n : ℕ) (d e : Specification) → SameBody p q names others n d e → SamePortion (portion_of p d) (portion_of q e)
  portion_same n d e s =
      let h : IsOf p d s.old = of_at p (function_specifications p) (all_functions (files_of names p.sources)) (all_of p names a) n d s.old s.old_specified s.old_stands in
      let i : IsOf q e s.new = of_at q (function_specifications q) (all_functions (files_of others q.sources)) (all_of q others b) n e s.new s.new_specified s.new_stands in
      let one : function_alone s.new ≡ function_alone s.old = k.bodies n s.old s.new s.old_stands s.new_stands s.bodies in
      record {
        texts = portion_texts q e s.new i ∙ ap (λ (r : Alone). r.texts) one ∙ sym (portion_texts p d s.old h);
        tree = portion_tree q e s.new i ∙ ap (λ (r : Alone). Some r.tree) one ∙ sym (portion_tree p d s.old h);
      }

  typed_same : (n : ℕ) (d e : Specification) → SameBody p q names others n d e → (portion_of q e).objects ≡ (portion_of p d).objects → types_in q n ≡ types_in p n
      → (around : Surroundings) (rights : Rights) → typed_function q around rights n e ≡ typed_function p around rights n d
  typed_same n d e s o t around rights =
      ap (λ bs. function_of around rights n bs (portion_of q e)) t ∙ ap (function_of around rights n (types_in p n)) (one_portion (portion_of p d) (portion_of q e) (portion_same n d e s) o)

  pub portions_kept : KeepsPortions p q names others
  portions_kept = record {
    count =
        of_count q (function_specifications q) (all_functions (files_of others q.sources)) (all_of q others b) ∙ k.count
        ∙ sym (of_count p (function_specifications p) (all_functions (files_of names p.sources)) (all_of p names a));
    portions = portion_same;
    typed = typed_same;
  }
