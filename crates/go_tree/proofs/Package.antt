-- The package clause of a file.
use Rattle.std.proofs.Common.{◌≡◌, ℕ, suc, ◌+◌, ◌<◌, false, true, List, [], ◌∷◌, Some, length, slice_get, subst, arith}
use Rattle.std.proofs.lemmas.List.{length-map}
use Rattle.std.proofs.lemmas.Option.{slice_get_within}
use Rattle.go_tokens.specs.declared.token.Token.{Token}
use Rattle.go_tokens.specs.declared.token.TokenKind.{TokenKind}
use Rattle.go_tokens.specs.declared.token.TokenKind.TheVariants.{Package, Identifier, Semicolon}
use Rattle.go_tokens.specs.Tokens.{kinds, kind_of}
use Rattle.go_grammar.specs.declared.kind.Kind.TheVariants as kind
use Rattle.go_grammar.specs.Trees.{Tree, node, none, more, skip, first}
use Rattle.go_grammar.specs.Grammar.{IsFile, Words}
use Rattle.go_tree.specs.File.{FileTree, IsFileTree}
use Rattle.go_tree.specs.Views.{view}

second_word : (ts : List TokenKind) (i j : ℕ) → i ≡ 0 → Words ts i (Package ∷ Identifier ∷ Semicolon ∷ []) j → slice_get ts 1 ≡ Some Identifier
second_word ts i j e h = subst (λ n. slice_get ts (suc n) ≡ Some Identifier) e h.1.0

-- the second token of a file is the package's name
pub package_named : (ts : List TokenKind) (t : Tree) → IsFile ts t → slice_get ts 1 ≡ Some Identifier
package_named ts (node kind.File i j none) h = absurd h.derives.1
package_named ts (node kind.File i j (more p ps)) h = second_word ts i (first p) h.begins h.derives.1.0
package_named ts (node kind.File i j (skip ps)) h = second_word ts i h.derives.1.0 h.begins h.derives.1.1
package_named ts (node k i j ps) h = let e : false ≡ true = h.derives.0 in cc

second_within : (ts : List Token) → slice_get (kinds ts) 1 ≡ Some Identifier → 1 < length ts
second_within ts h = subst (λ n. 1 < n) (length-map ts kind_of) (slice_get_within (kinds ts) 1 Identifier h)

-- what stands behind a file's first token
pub record IsName (ts : List Token) (n : ℕ) : Type 0 where
  pub within : n < length ts
  pub identifier : slice_get (kinds ts) n ≡ Some Identifier

pub name_behind : (f : FileTree) (n : ℕ) → IsFileTree f → n ≡ first (view f.root) → IsName f.tokens.tokens (n + 1)
name_behind f n h e =
    let one : 1 ≡ n + 1 = omega (arith, h.tree.begins) in
    let named : slice_get (kinds f.tokens.tokens) 1 ≡ Some Identifier = package_named (kinds f.tokens.tokens) (view f.root) h.tree in
    subst (IsName f.tokens.tokens) one (record { within = second_within f.tokens.tokens named; identifier = named })
