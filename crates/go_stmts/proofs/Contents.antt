-- The content of a typed function.
use Rattle.std.proofs.Common.{◌≡◌, ℕ, zero, suc, ◌+◌, List, [], ◌∷◌, ◌++◌, length, map, Option, Result, Ok, Err, refl, ap, sym, ◌∙◌, arith}
use Rattle.std.specs.Prelude.{IfOk, unwrap_or}
use Rattle.std.proofs.lemmas.List.{map-append}
use Rattle.go_tree.specs.declared.object.Object.{Object}
use Rattle.go_types.specs.Trees.{TypeTree}
use Rattle.go_types.specs.Tables.{Table, type_of}
use Rattle.go_typed.specs.declared.node.TypedNode.{TypedNode}
use Rattle.go_typed.specs.declared.sort.Sort as program
use Rattle.go_typed.specs.Contents.{FuncContent, func_content}
use Rattle.go_typed.specs.Funcs.{FuncView}
use Rattle.go_typed.specs.Scopes.{LocalsView}
use Rattle.go_typed.specs.Trees.{sort_mapped}
use Rattle.go_typed.specs.Views.{seen, sort_seen, sort_view}
use Rattle.go_exprs_rules.specs.Scopes.{Scope}
use Rattle.go_exprs_rules.specs.Settling.{Part}
use Rattle.go_exprs_rules.specs.Sorts.{Stands}
use Rattle.go_exprs_rules.specs.TypeNodes.{part_type}
use Rattle.go_stmts_defs.specs.Bodies.{numbers_from, no_function, function_read}
use Rattle.go_stmts_defs.specs.Frames.{Frame, Locals, local_stands}
use Rattle.go_stmts_defs.specs.Laying.{local_named}
use Rattle.go_stmts_defs.specs.Reading.{first_parts, entry_names}
use Rattle.go_stmts_rules.specs.Seen.{locals_in}
use Rattle.go_stmts.specs.declared.state.Surroundings.{Surroundings}
use Rattle.go_stmts.specs.State.{object_at}

numbers_last : (k n : ℕ) → numbers_from k (suc n) ≡ numbers_from k n ++ (k + n) ∷ []
numbers_last k zero = let e : k ≡ k + 0 = omega arith in ap (λ m. m ∷ []) e
numbers_last k (suc n) = let e : suc k + n ≡ k + suc n = omega arith in ap (λ xs. k ∷ xs) (numbers_last (suc k) n ∙ ap (λ m. numbers_from (suc k) n ++ m ∷ []) e)

-- one number more
pub numbers_more : {A : Type 0} (f : ℕ → A) (xs ys : List A) (n : ℕ) (x : A) → xs ≡ map f (numbers_from 0 n) → x ≡ f n → ys ≡ xs ++ x ∷ [] → ys ≡ map f (numbers_from 0 (n + 1))
numbers_more f xs ys n x e is more =
    let next : suc n ≡ n + 1 = omega arith in
    let same : 0 + n ≡ n = omega arith in
    more ∙ ap (λ zs. zs ++ x ∷ []) e ∙ ap (λ z. map f (numbers_from 0 n) ++ z ∷ []) is
    ∙ ap (λ m. map f (numbers_from 0 n) ++ f m ∷ []) (sym same)
    ∙ sym (map-append f (numbers_from 0 n) ((0 + n) ∷ [])) ∙ ap (map f) (sym (numbers_last 0 n)) ∙ ap (λ m. map f (numbers_from 0 m)) next

pub ok_then : {A E : Type 0} {P Q : A → Type 0} (r : Result A E) → ((x : A) → P x → Q x) → IfOk r P → IfOk r Q
ok_then (Ok x) f h = f x h
ok_then (Err e) f h = tt

sorts_twice : (t : Table) (ls : List program.Sort) → map (sort_mapped (type_of t.shapes)) (map sort_view ls) ≡ map (sort_seen t) ls
sorts_twice t [] = refl
sorts_twice t (x ∷ ls) = ap (λ xs. sort_seen t x ∷ xs) (sorts_twice t ls)

module _ (t : Table) (o : Surroundings) (s : Scope) (b : Frame) (objects : s.objects ≡ object_at o) (locals : LocalsView) (same : b.locals ≡ locals_in t locals) (number count : ℕ) (g : Option Part) (root : TypedNode) where
  abbrev made : TypeTree → List (Option ℕ) → List Stands → List (Option ℕ) → FuncContent
  made sg ps ls ts = record { number = number; signature = sg; parameters = ps; locals = ls; tokens = ts; tree = seen t root }

  abbrev stood : Locals → List Stands
  stood l = map (local_stands l) (numbers_from 0 (length l))

  pub content_is : (f : FuncView) (of : ℕ) (ps : List (Option ℕ)) (ls : List program.Sort) (ts : List (Option ℕ)) → f ≡ record { number = number; signature = of; parameters = ps; locals = map sort_view ls; tokens = ts; root = root }
      → type_of t.shapes of ≡ unwrap_or (part_type g) no_function → ps ≡ entry_names (first_parts g) → map (sort_seen t) ls ≡ stood (locals_in t locals) → ts ≡ map (λ i. local_named (object_at o i)) (numbers_from 0 count)
      → func_content (type_of t.shapes) f ≡ function_read s number count g (seen t root) b
  content_is f of ps ls ts is sg names sorts tokens =
      let signature = unwrap_or (part_type g) no_function in
      let parameters = entry_names (first_parts g) in
      ap (func_content (type_of t.shapes)) is
      ∙ ap (λ z. made z ps (map (sort_mapped (type_of t.shapes)) (map sort_view ls)) ts) sg
      ∙ ap (λ z. made signature z (map (sort_mapped (type_of t.shapes)) (map sort_view ls)) ts) names
      ∙ ap (λ z. made signature parameters z ts) (sorts_twice t ls ∙ sorts ∙ ap stood (sym same))
      ∙ ap (made signature parameters (stood b.locals)) (tokens ∙ ap (λ (h : ℕ → Option Object). map (λ i. local_named (h i)) (numbers_from 0 count)) (sym objects))
