-- Packages under other numbers of declared types.
use Rattle.std.proofs.Common.{◌≡◌, ◌∙◌, ℕ, List, [], ◌∷◌, map, Option, Some, None, ap, refl, sym}
use mathlib.Core.Path.{fun_ext}
use Rattle.std.specs.Option.{option_map}
use Rattle.go_types.specs.Trees.{TypeTree, boolean, text, integer, array, slice, structure, function, declared, TypeRow}
use Rattle.go_types.specs.Trees as types
use Rattle.go_types_relations.specs.Questions.{entry}
use Rattle.go_types_relations.specs.Renaming.{renamed, renamed_row}
use Rattle.go_typed.specs.Contents.{Content, FuncContent, func_renamed, IsRenamed}
use Rattle.go_typed.specs.Trees.{Sort, Nothing, Unknown, Blank, Nil, Builtin, Println, Package, IsType, Value, Constant, Open, OpenConstant, Results, Typed, typed, Typeds, none, more, skip, sort_mapped, label_mapped, mapped, all_mapped}

abbrev itself : ℕ → ℕ
itself n = n

abbrev behind : (ℕ → ℕ) → (ℕ → ℕ) → ℕ → ℕ
behind s r n = s (r n)

-- ---- types

mutual
  type_itself : (t : TypeTree) → renamed itself t ≡ t
  type_itself boolean = refl
  type_itself text = refl
  type_itself (integer k) = refl
  type_itself (array n t) = ap (array n) (type_itself t)
  type_itself (slice t) = ap slice (type_itself t)
  type_itself (structure ns ts) = ap (structure ns) (row_itself ts)
  type_itself (function ps rs) = ap (λ qs. function qs (renamed_row itself rs)) (row_itself ps) ∙ ap (function ps) (row_itself rs)
  type_itself (declared n) = refl

  row_itself : (ts : TypeRow) → renamed_row itself ts ≡ ts
  row_itself types.none = refl
  row_itself (types.more t ts) = ap (λ u. types.more u (renamed_row itself ts)) (type_itself t) ∙ ap (types.more t) (row_itself ts)

module _ (s r : ℕ → ℕ) where
  mutual
    type_both : (t : TypeTree) → renamed s (renamed r t) ≡ renamed (behind s r) t
    type_both boolean = refl
    type_both text = refl
    type_both (integer k) = refl
    type_both (array n t) = ap (array n) (type_both t)
    type_both (slice t) = ap slice (type_both t)
    type_both (structure ns ts) = ap (structure ns) (row_both ts)
    type_both (function ps rs) = ap (λ qs. function qs (renamed_row s (renamed_row r rs))) (row_both ps) ∙ ap (function (renamed_row (behind s r) ps)) (row_both rs)
    type_both (declared n) = refl

    row_both : (ts : TypeRow) → renamed_row s (renamed_row r ts) ≡ renamed_row (behind s r) ts
    row_both types.none = refl
    row_both (types.more t ts) = ap (λ u. types.more u (renamed_row s (renamed_row r ts))) (type_both t) ∙ ap (types.more (renamed (behind s r) t)) (row_both ts)

-- ---- sorts, trees and rows over other words for types

module _ {T : Type 0} where
  sort_same : (x : Sort T) → sort_mapped (λ t. t) x ≡ x
  sort_same Nothing = refl
  sort_same Unknown = refl
  sort_same Blank = refl
  sort_same Nil = refl
  sort_same (Builtin b) = refl
  sort_same Println = refl
  sort_same Package = refl
  sort_same (IsType t) = refl
  sort_same (Value t) = refl
  sort_same (Constant t c) = refl
  sort_same (Open u) = refl
  sort_same (OpenConstant c) = refl
  sort_same (Results t) = refl

  mutual
    tree_same : (x : Typed T) → mapped (λ t. t) x ≡ x
    tree_same (typed f i j l ps) =
        ap (λ (x : Sort T). typed f i j (record { sort = x; varies = l.varies; calls = l.calls }) (all_mapped (λ t. t) ps)) (sort_same l.sort)
        ∙ ap (typed f i j l) (trees_same ps)

    trees_same : (ps : Typeds T) → all_mapped (λ t. t) ps ≡ ps
    trees_same none = refl
    trees_same (more p ps) = ap (λ q. more q (all_mapped (λ t. t) ps)) (tree_same p) ∙ ap (more p) (trees_same ps)
    trees_same (skip ps) = ap skip (trees_same ps)

module _ {T U V : Type 0} (g : U → V) (h : T → U) where
  sort_twice : (x : Sort T) → sort_mapped g (sort_mapped h x) ≡ sort_mapped (λ t. g (h t)) x
  sort_twice Nothing = refl
  sort_twice Unknown = refl
  sort_twice Blank = refl
  sort_twice Nil = refl
  sort_twice (Builtin b) = refl
  sort_twice Println = refl
  sort_twice Package = refl
  sort_twice (IsType t) = refl
  sort_twice (Value t) = refl
  sort_twice (Constant t c) = refl
  sort_twice (Open u) = refl
  sort_twice (OpenConstant c) = refl
  sort_twice (Results t) = refl

  mutual
    tree_twice : (x : Typed T) → mapped g (mapped h x) ≡ mapped (λ t. g (h t)) x
    tree_twice (typed f i j l ps) =
        ap (λ (x : Sort V). typed f i j (record { sort = x; varies = l.varies; calls = l.calls }) (all_mapped g (all_mapped h ps))) (sort_twice l.sort)
        ∙ ap (typed f i j (label_mapped (λ t. g (h t)) l)) (trees_twice ps)

    trees_twice : (ps : Typeds T) → all_mapped g (all_mapped h ps) ≡ all_mapped (λ t. g (h t)) ps
    trees_twice none = refl
    trees_twice (more p ps) = ap (λ q. more q (all_mapped g (all_mapped h ps))) (tree_twice p) ∙ ap (more (mapped (λ t. g (h t)) p)) (trees_twice ps)
    trees_twice (skip ps) = ap skip (trees_twice ps)

map_same : {X : Type 0} (f : X → X) → ((x : X) → f x ≡ x) → (xs : List X) → map f xs ≡ xs
map_same f e [] = refl
map_same f e (x ∷ xs) = ap (λ y. y ∷ map f xs) (e x) ∙ ap (λ ys. x ∷ ys) (map_same f e xs)

map_twice : {X Y Z : Type 0} (f : Y → Z) (g : X → Y) (h : X → Z) → ((x : X) → f (g x) ≡ h x) → (xs : List X) → map f (map g xs) ≡ map h xs
map_twice f g h e [] = refl
map_twice f g h e (x ∷ xs) = ap (λ y. y ∷ map f (map g xs)) (e x) ∙ ap (λ ys. h x ∷ ys) (map_twice f g h e xs)

-- ---- by the numbers of declared types

sort_itself : (x : Sort TypeTree) → sort_mapped (renamed itself) x ≡ x
sort_itself x = ap (λ (g : TypeTree → TypeTree). sort_mapped g x) (fun_ext type_itself) ∙ sort_same x

tree_itself : (x : Typed TypeTree) → mapped (renamed itself) x ≡ x
tree_itself x = ap (λ (g : TypeTree → TypeTree). mapped g x) (fun_ext type_itself) ∙ tree_same x

sort_both : (s r : ℕ → ℕ) (x : Sort TypeTree) → sort_mapped (renamed s) (sort_mapped (renamed r) x) ≡ sort_mapped (renamed (behind s r)) x
sort_both s r x = sort_twice (renamed s) (renamed r) x ∙ ap (λ (g : TypeTree → TypeTree). sort_mapped g x) (fun_ext (type_both s r))

tree_both : (s r : ℕ → ℕ) (x : Typed TypeTree) → mapped (renamed s) (mapped (renamed r) x) ≡ mapped (renamed (behind s r)) x
tree_both s r x = tree_twice (renamed s) (renamed r) x ∙ ap (λ (g : TypeTree → TypeTree). mapped g x) (fun_ext (type_both s r))

abbrev func_with : FuncContent → TypeTree → List (Sort TypeTree) → Typed TypeTree → FuncContent
func_with f t ls x = record { number = f.number; signature = t; parameters = f.parameters; locals = ls; tokens = f.tokens; tree = x }

func_itself : (f : FuncContent) → func_renamed itself f ≡ f
func_itself f =
    ap (λ t. func_with f t (map (sort_mapped (renamed itself)) f.locals) (mapped (renamed itself) f.tree)) (type_itself f.signature)
    ∙ ap (λ ls. func_with f f.signature ls (mapped (renamed itself) f.tree)) (map_same (sort_mapped (renamed itself)) sort_itself f.locals)
    ∙ ap (func_with f f.signature f.locals) (tree_itself f.tree)

func_both : (s r : ℕ → ℕ) (f : FuncContent) → func_renamed s (func_renamed r f) ≡ func_renamed (behind s r) f
func_both s r f =
    ap (λ t. func_with f t (map (sort_mapped (renamed s)) (map (sort_mapped (renamed r)) f.locals)) (mapped (renamed s) (mapped (renamed r) f.tree))) (type_both s r f.signature)
    ∙ ap (λ ls. func_with f (renamed (behind s r) f.signature) ls (mapped (renamed s) (mapped (renamed r) f.tree))) (map_twice (sort_mapped (renamed s)) (sort_mapped (renamed r)) (sort_mapped (renamed (behind s r))) (sort_both s r) f.locals)
    ∙ ap (func_with f (renamed (behind s r) f.signature) (map (sort_mapped (renamed (behind s r))) f.locals)) (tree_both s r f.tree)

-- ---- packages

entry_itself : (o : Option TypeTree) → o ≡ option_map (renamed itself) o
entry_itself None = refl
entry_itself (Some t) = ap Some (sym (type_itself t))

entry_both : (s r : ℕ → ℕ) (o : Option TypeTree) → option_map (renamed s) (option_map (renamed r) o) ≡ option_map (renamed (behind s r)) o
entry_both s r None = refl
entry_both s r (Some t) = ap Some (type_both s r t)

pub renamed_itself : (c : Content) → IsRenamed itself c c
renamed_itself c = record {
  one_to_one = λ n m e. e;
  names = refl;
  files = refl;
  uses = refl;
  rights = λ n. entry_itself (entry c.rights n);
  origins = λ n o e. e;
  objects = sym (map_same (sort_mapped (renamed itself)) sort_itself c.objects);
  referents = refl;
  variables = sym (map_same (mapped (renamed itself)) tree_itself c.variables);
  functions = sym (map_same (func_renamed itself) func_itself c.functions);
}

pub renamed_both : (r s : ℕ → ℕ) (c d e : Content) → IsRenamed r c d → IsRenamed s d e → IsRenamed (behind s r) c e
renamed_both r s c d e h k = record {
  one_to_one = λ n m q. h.one_to_one n m (k.one_to_one (r n) (r m) q);
  names = k.names ∙ h.names;
  files = k.files ∙ h.files;
  uses = k.uses ∙ h.uses;
  rights = λ n. k.rights (r n) ∙ ap (option_map (renamed s)) (h.rights n) ∙ entry_both s r (entry c.rights n);
  origins = λ n o q. k.origins (r n) o (h.origins n o q);
  objects = k.objects ∙ ap (map (sort_mapped (renamed s))) h.objects ∙ map_twice (sort_mapped (renamed s)) (sort_mapped (renamed r)) (sort_mapped (renamed (behind s r))) (sort_both s r) c.objects;
  referents = k.referents ∙ h.referents;
  variables = k.variables ∙ ap (map (mapped (renamed s))) h.variables ∙ map_twice (mapped (renamed s)) (mapped (renamed r)) (mapped (renamed (behind s r))) (tree_both s r) c.variables;
  functions = k.functions ∙ ap (map (func_renamed s)) h.functions ∙ map_twice (func_renamed s) (func_renamed r) (func_renamed (behind s r)) (func_both s r) c.functions;
}
