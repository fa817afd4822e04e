-- The literals of a tree can be read with its tokens counted from its first one.
use Rattle.std.proofs.Common.{◌≡◌, ℕ, ◌+◌, ◌-◌, ◌≤◌, subst, arith}
use Rattle.go_grammar.specs.declared.kind.Kind.{Kind}
use Rattle.go_grammar.specs.declared.kind.Kind.TheVariants as kind
use Rattle.go_grammar.specs.declared.kind.Sort.TheVariants as declaring
use Rattle.go_grammar.specs.Trees.{Tree, node, Trees, none, more, skip, first, last}
use Rattle.go_tokens.specs.Tokens.{TokenList}
use Rattle.go_tree.specs.Units.{word}
use Rattle.go_scopes_events.proofs.Public.{behind_name, IsLaidOut, LieIn, laid_grows}
use Rattle.go_exprs_engine.specs.Literals.{Reads, AllRead, PartsRead}
use Rattle.go_stmts_defs.specs.Bodies.{based, all_based}
use Rattle.go_stmts.specs.Bodies.{text_from}

name_behind : (k : Kind) (i : ℕ) → i ≤ behind_name k i
name_behind kind.FunctionDeclaration i = omega arith
name_behind (kind.Specification declaring.Type) i = omega arith
name_behind kind.DeclaredName i = omega arith
name_behind kind.Name i = omega arith
name_behind k i = omega arith

module _ (ts : TokenList) (b : ℕ) where
  own_read : (k : Kind) (i : ℕ) → b ≤ i → Reads (word ts) k i → Reads (text_from ts b) k (i - b)
  own_read k i le h = moved k (let e : i ≡ b + (i - b) = omega (arith, le) in subst (λ n. Reads (word ts) k n) e h)
    where
      moved : (k : Kind) → Reads (word ts) k (b + (i - b)) → Reads (text_from ts b) k (i - b)
      moved kind.Rune h = h
      moved kind.Text h = h
      moved k h = tt

  mutual
    pub tree_read : (t : Tree) → IsLaidOut t → b ≤ first t → AllRead (word ts) t → AllRead (text_from ts b) (based b t)
    tree_read (node k i j ps) laid le h = (own_read k i le h.0, parts_read (behind_name k i) j ps (let after = name_behind k i in omega (arith, le, after)) laid.1 h.1)

    parts_read : (a j : ℕ) (ps : Trees) → b ≤ a → LieIn a j ps → PartsRead (word ts) ps → PartsRead (text_from ts b) (all_based b ps)
    parts_read a j none le laid h = tt
    parts_read a j (more p ps) le laid h =
        let start : b ≤ first p = (let l = laid.0 in omega (arith, le, l)) in
        let end : b ≤ last p = (let g = laid_grows p laid.1 in omega (arith, start, g)) in
        (tree_read p laid.1 start h.0, parts_read (last p) j ps end laid.2 h.1)
    parts_read a j (skip ps) le laid h = parts_read a j ps le laid h
