-- What the function of a number is made of.
use Rattle.std.proofs.Common.{◌≡◌, ℕ, suc, ◌<◌, ◌≤◌, Bool, true, List, [], ◌∷◌, ◌++◌, map, length, Some, None, sym, ap, subst, lt-ltb, arith}
use Rattle.std.specs.Prelude.{if◌then◌else◌, slice_get}
use Rattle.std.specs.List.{AllByRecursion}
use Rattle.std.proofs.lemmas.List.{length-map}
use Rattle.go_tokens.specs.declared.token.TokenKind.{TokenKind}
use Rattle.go_tokens.specs.Tokens.{kinds, kind_of as token_kind}
use Rattle.go_grammar.specs.declared.kind.Kind.{Kind}
use Rattle.go_grammar.specs.declared.kind.Kind.TheVariants as kind
use Rattle.go_grammar.specs.declared.kind.Category.TheVariants as category
use Rattle.go_grammar.specs.Trees.{Tree, node, Trees, none, more, skip, kind_of, first, last, parts}
use Rattle.go_grammar.proofs.Public.{lies_within}
use Rattle.go_rewriting.proofs.Public.{tree_order, derives_ordered}
use Rattle.go_types.proofs.Public.{all_at}
use Rattle.go_tree.specs.Functions.{FunctionDeclarationTree, function_declaration_of}
use Rattle.go_tree.specs.Lists.{is_function, functions}
use Rattle.go_heads.specs.Functions.{Function, AreRead, all_functions}
use Rattle.go_heads.specs.Heads.{File, IsRead, body_of, in_bodies, without_body}
use Rattle.go_heads.proofs.Functions.{some_none, same_some}
use Rattle.go_heads.proofs.Outlines.{Sits, function_kind}
use Rattle.go_heads.specs.Told.{file_events}
use Rattle.go_heads.proofs.Names.{AllStand, file_stands}

-- Its declaration has its name behind the first token, and its body, which lies in it.
pub record IsMade (t : Tree) : Type 0 where
  pub signature : Tree
  pub declares : function_declaration_of t ≡ Some (record { name = suc (first t); signature = signature; body = body_of t })
  pub named : suc (first t) < last (without_body t)
  pub ends : last (without_body t) ≤ last t
  pub body : (b : Tree) → body_of t ≡ Some b → (first b < last b) × (last b ≤ last t)

module _ (ts : List TokenKind) (p : ℕ → Bool) where
  abbrev function : ℕ → ℕ → Trees → Tree
  function i j ps = node kind.FunctionDeclaration i j ps

  declared : (i j : ℕ) (ps : Trees) → Sits ts p (function i j ps) → IsMade (function i j ps)
  declared i j none h = absurd h.derives.1
  declared i j (skip ps) h = absurd h.derives.1
  declared i j (more s none) h = absurd h.derives.1.2
  declared i j (more s (skip (more q qs))) h = absurd h.derives.1.2.2
  declared i j (more s (skip (skip qs))) h = absurd h.derives.1.2.2
  declared i j (more s (more b (more q qs))) h = absurd h.derives.1.2.2
  declared i j (more s (more b (skip qs))) h = absurd h.derives.1.2.2
  declared i j (more s (skip none)) h =
      let t : Tree = function i j (more s (skip none)) in
      let order = derives_ordered ts t category.Declaration h.derives in
      let in_s : first s < last s = tree_order s order.1.1 in
      let name : suc (suc i) ≡ first s = h.derives.1.0.1.1 in
      let it : FunctionDeclarationTree = record { name = suc i; signature = s; body = None } in
      record {
        signature = s;
        declares = ap (λ b. if b then Some it else None) (lt-ltb i j (omega (arith, name, in_s, order.1.2)));
        named = omega (arith, name, in_s, order.1.2);
        ends = omega arith;
        body = λ b e. absurd (some_none b (sym e));
      }
  declared i j (more s (more b none)) h =
      let t : Tree = function i j (more s (more b none)) in
      let order = derives_ordered ts t category.Declaration h.derives in
      let in_s : first s < last s = tree_order s order.1.1 in
      let in_b : first b < last b = tree_order b order.1.2.1 in
      let name : suc (suc i) ≡ first s = h.derives.1.0.1.1 in
      let it : FunctionDeclarationTree = record { name = suc i; signature = s; body = Some b } in
      record {
        signature = s;
        declares = ap (λ b. if b then Some it else None) (lt-ltb i j (omega (arith, name, in_s, in_b, order.1.2.0, order.1.2.2)));
        named = omega (arith, name, in_s, order.1.2.0);
        ends = omega (arith, in_b, order.1.2.2);
        body = λ c e. subst (λ x. (first x < last x) × (last x ≤ j)) (same_some b c e) (in_b, order.1.2.2);
      }

  by_kind : (k : Kind) (i j : ℕ) (ps : Trees) → k ≡ kind.FunctionDeclaration → Sits ts p (node k i j ps) → IsMade (node k i j ps)
  by_kind k i j ps e h = subst (λ x. IsMade (node x i j ps)) (sym e) (declared i j ps (subst (λ x. Sits ts p (node x i j ps)) e h))

  made : (t : Tree) → is_function (kind_of t) ≡ true → Sits ts p t → IsMade t
  made (node k i j ps) e h = by_kind k i j ps (function_kind k e) h

-- It stands in a file that is read, and is made of these.
pub record IsThere (g : Function) : Type 0 where
  pub read : IsRead g.file
  pub made : IsMade g.tree
  pub within : last g.tree ≤ length g.file.tokens.tokens

there : (f : File) → IsRead f → (t : Tree) → is_function (kind_of t) ≡ true → Sits (kinds f.tokens.tokens) (in_bodies (parts f.tree)) t → IsThere (record { file = f; tree = t })
there f h t e s = record {
  read = h;
  made = made (kinds f.tokens.tokens) (in_bodies (parts f.tree)) t e s;
  within = omega (arith, (lies_within (kinds f.tokens.tokens) category.Declaration t s.derives).1, length-map f.tokens.tokens token_kind);
}

row_there : (f : File) → IsRead f → (gs : List Function) → AllByRecursion IsThere gs → (us : List Tree) → AllStand (kinds f.tokens.tokens) (in_bodies (parts f.tree)) (last f.tree) (file_events f) us
    → AllByRecursion IsThere (map (λ t. let x : Function = record { file = f; tree = t } in x) us ++ gs)
row_there f h gs k [] s = k
row_there f h gs k (t ∷ us) s = (there f h t s.0.function s.0.sits, row_there f h gs k us s.1)

all_there : (fs : List File) → AreRead fs → AllByRecursion IsThere (all_functions fs)
all_there [] h = tt
all_there (f ∷ fs) h = row_there f h.0 (all_functions fs) (all_there fs h.1) (functions (parts f.tree)) (file_stands (kinds f.tokens.tokens) f.tree h.0.tree)

pub is_there : (fs : List File) → AreRead fs → (k : ℕ) (g : Function) → slice_get (all_functions fs) k ≡ Some g → IsThere g
is_there fs h k g e = all_at IsThere (all_functions fs) k g (all_there fs h) e
