-- What is known of the locals of a typed function.
use Rattle.std.proofs.Common.{◌≡◌, ℕ, ◌<◌, List, [], ◌∷◌, ◌++◌, map, Option, Some, None, ap, sym, subst, ◌∙◌, length, refl}
use Rattle.std.specs.Prelude.{slice_get}
use Rattle.std.specs.List.{AllByRecursion}
use Rattle.go_types.specs.Trees.{TypeTree}
use Rattle.go_types.specs.Tables.{Table, IsTable, type_of}
use Rattle.go_types_relations.specs.Extends.{Extends}
use Rattle.go_types_relations.proofs.Public.{tree_stays}
use Rattle.go_typed.specs.declared.node.TypedNode.{TypedNode}
use Rattle.go_typed.specs.declared.sort.Sort as program
use Rattle.go_typed.specs.Contents.{FuncContent, func_content}
use Rattle.go_typed.specs.Funcs.{FuncView}
use Rattle.go_typed.specs.Scopes.{LocalsView, local_sort, KnownLocals}
use Rattle.go_typed.specs.Trees.{Sort, SortHas, sort_mapped}
use Rattle.go_typed.specs.Views.{seen, sort_view, KnownSort, Known}
use Rattle.go_exprs_rules.specs.Settling.{Part}
use Rattle.go_exprs_rules.specs.Sorts.{Stands}
use Rattle.go_exprs_engine.proofs.Public.{sort_same, node_stays}
use Rattle.go_stmts.specs.Bodies.{KnownFunction}

pub local_known : (n k : ℕ) (ls : LocalsView) (x : Sort ℕ) → KnownLocals n ls → local_sort (slice_get ls.sorts k) ≡ Some x → SortHas (λ t. t < n) x
local_known n k ls x h e = h k x (there (slice_get ls.sorts k) e)
  where
    there : (o : Option (Option (Sort ℕ))) → local_sort o ≡ Some x → o ≡ Some (Some x)
    there None e = cc
    there (Some o) e = ap Some e

pub all_more : {A : Type 0} (P : A → Type 0) (xs ys : List A) (x : A) → AllByRecursion P xs → P x → ys ≡ xs ++ x ∷ [] → AllByRecursion P ys
all_more P xs ys x h k e = subst (AllByRecursion P) (sym e) (behind xs h)
  where
    behind : (xs : List _) → AllByRecursion P xs → AllByRecursion P (xs ++ x ∷ [])
    behind [] h = (k, tt)
    behind (y ∷ ys) h = (h.0, behind ys h.1)

all_viewed : (n : ℕ) (ls : List program.Sort) → AllByRecursion (KnownSort n) ls → AllByRecursion (λ x. SortHas (λ i. i < n) x) (map sort_view ls)
all_viewed n [] h = tt
all_viewed n (x ∷ ls) h = (h.0, all_viewed n ls h.1)

pub function_known : (n number of : ℕ) (ps : List (Option ℕ)) (ls : List program.Sort) (ts : List (Option ℕ)) (root : TypedNode) (f : FuncView)
    → of < n → AllByRecursion (KnownSort n) ls → Known n root → f ≡ record { number = number; signature = of; parameters = ps; locals = map sort_view ls; tokens = ts; root = root } → KnownFunction n f
function_known n number of ps ls ts root f below sorts tree e = subst (KnownFunction n) (sym e) (record { signature = below; locals = all_viewed n ls sorts; tree = tree })

module _ (old new : Table) (ok : IsTable old) (e : Extends old new) where
  locals_stay : (xs : List (Sort ℕ)) → AllByRecursion (λ x. SortHas (λ i. i < length old.shapes) x) xs → map (sort_mapped (type_of new.shapes)) xs ≡ map (sort_mapped (type_of old.shapes)) xs
  locals_stay [] h = refl
  locals_stay (x ∷ xs) h =
      ap (λ y. y ∷ map (sort_mapped (type_of new.shapes)) xs) (sort_same (type_of new.shapes) (type_of old.shapes) (λ i lt. tree_stays old new ok e i lt) x h.0)
      ∙ ap (λ ys. sort_mapped (type_of old.shapes) x ∷ ys) (locals_stay xs h.1)

  module _ (f : FuncView) where
    abbrev content_with : TypeTree → List Stands → Part → FuncContent
    content_with of ls x = record { number = f.number; signature = of; parameters = f.parameters; locals = ls; tokens = f.tokens; tree = x }

    content_stays : KnownFunction (length old.shapes) f → func_content (type_of new.shapes) f ≡ func_content (type_of old.shapes) f
    content_stays h =
        ap (λ z. content_with z (map (sort_mapped (type_of new.shapes)) f.locals) (seen new f.root)) (tree_stays old new ok e f.signature h.signature)
        ∙ ap (λ z. content_with (type_of old.shapes f.signature) z (seen new f.root)) (locals_stay f.locals h.locals)
        ∙ ap (content_with (type_of old.shapes f.signature) (map (sort_mapped (type_of old.shapes)) f.locals)) (node_stays old new ok e f.root h.tree)

pub function_stays : (old new : Table) → IsTable old → Extends old new → (f : FuncView) → KnownFunction (length old.shapes) f → func_content (type_of new.shapes) f ≡ func_content (type_of old.shapes) f
function_stays old new ok e f h = content_stays old new ok e f h
