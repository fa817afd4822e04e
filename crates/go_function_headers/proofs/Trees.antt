-- The tree of a function with another header.
use Rattle.std.proofs.Common.{◌≡◌, ◌∙◌, ℕ, zero, suc, ◌+◌, ◌-◌, ◌≤◌, List, [], ◌∷◌, ◌++◌, length, Some, refl, sym, ap, arith}
use Rattle.std.specs.Prelude.{slice_get}
use Rattle.std.proofs.lemmas.List.{length-append}
use Rattle.go_tokens.specs.declared.token.TokenKind.{TokenKind}
use Rattle.go_grammar.specs.declared.kind.Kind.TheVariants as kind
use Rattle.go_grammar.specs.declared.kind.Category.TheVariants as category
use Rattle.go_grammar.specs.Grammar.{Derives}
use Rattle.go_grammar.specs.Trees.{Tree, node, none, more, skip, depth, first, last}
use Rattle.go_grammar.proofs.Public.{derives_order}
use Rattle.go_rewriting.specs.Places.{IsDeclaration, carry}
use Rattle.go_rewriting.specs.Replacing.{subtree_at}
use Rattle.go_rewriting.proofs.Public.{derives_kept, first_carry, last_carry, soft_same}
use Rattle.go_function_headers.specs.Functions.{IsWholeDeclaration}

behind : (us vs : List TokenKind) (j n : ℕ) → j ≡ length us + n → slice_get (us ++ vs) j ≡ slice_get vs n
behind [] vs j n e = let same : j ≡ n = omega (arith, e) in ap (slice_get vs) same
behind (u ∷ us) vs zero n e = absurd (omega (arith, e))
behind (u ∷ us) vs (suc j) n e = behind us vs j n (omega (arith, e))

-- a function with this signature and this block
abbrev pub function_of : Tree → Tree → Tree
function_of s b = node kind.FunctionDeclaration 0 (last b) (more s (more b none))

-- A declaration with another signature.
pub record Headed (ws : List TokenKind) (s : Tree) : Type 0 where
  pub tree : Tree
  pub whole : IsWholeDeclaration ws tree
  pub part : subtree_at (0 ∷ []) tree ≡ Some s
  pub above : suc (depth s) ≤ depth tree

module _ (us us' rest : List TokenKind) (s s' b : Tree) (is : IsDeclaration (us ++ rest) (function_of s b)) (begins : first b ≡ length us) (header : Derives (us' ++ rest) category.Declaration (node kind.FunctionDeclaration 0 (last s') (more s' (skip none))))
    (end : last s' ≡ length us') where
  abbrev m : ℕ → ℕ
  m n = n - length us + length us'

  same : (n : ℕ) → length us ≤ n → slice_get (us' ++ rest) (m n) ≡ slice_get (us ++ rest) n
  same n le = behind us' rest (m n) (n - length us) (omega arith) ∙ sym (behind us rest n (n - length us) (omega (arith, le)))

  order : first b ≤ last b
  order = derives_order (us ++ rest) b category.Block is.derives.1.2.1

  block : Derives (us' ++ rest) category.Block (carry m b)
  block =
      derives_kept (us ++ rest) (us' ++ rest) m b category.Block (λ n lo hi. record { same = same n (omega (arith, lo, begins)); next = omega (arith, lo, begins) })
      (soft_same (us ++ rest) (us' ++ rest) m (last b) (same (last b) (let o = order in omega (arith, o, begins)))) is.derives.1.2.1

  abbrev new : Tree
  new = function_of s' (carry m b)

  far : last (carry m b) ≡ m (last b)
  far = last_carry m b

  pub headed : Headed (us' ++ rest) s'
  headed = record {
    tree = new;
    whole = record {
      derives = (refl, (header.1.0, header.1.1, (end ∙ (let z : length us' ≡ m (first b) = omega (arith, begins) in z) ∙ sym (first_carry m b), block, refl)), refl, refl);
      begins = refl;
      closed = ap (slice_get (us' ++ rest)) far ∙ same (last b) (let o = order in omega (arith, o, begins)) ∙ is.closed;
      all = (let o = order in let a = is.all in let f = far in omega (arith, o, a, f, begins, length-append us rest, length-append us' rest));
    };
    part = refl;
    above = omega arith;
  }
