-- The trees of files are read by their own tokens.
use Rattle.std.proofs.Common.{◌≡◌, ℕ, suc, ◌-◌, ◌<◌, ◌≤◌, Bool, true, List, [], ◌∷◌, ◌++◌, Option, None, arith}
use Rattle.std.proofs.lemmas.Bool.{lt-ltb}
use Rattle.std.specs.List.{AllByRecursion}
use Rattle.std.specs.Prelude.{nat_lt}
use Rattle.go_tokens.specs.declared.token.TokenKind.{TokenKind}
use Rattle.go_tokens.specs.Tokens.{kinds}
use Rattle.go_grammar.specs.declared.kind.Category.{Category}
use Rattle.go_grammar.specs.declared.kind.Category.TheVariants as category
use Rattle.go_grammar.specs.declared.kind.Kind.{Kind}
use Rattle.go_grammar.specs.declared.kind.Kind.TheVariants as kind
use Rattle.go_grammar.specs.declared.kind.Sort.{Sort}
use Rattle.go_grammar.specs.declared.kind.Sort.TheVariants as declaring
use Rattle.go_grammar.specs.Categories.{place_of}
use Rattle.go_grammar.specs.Grammar.{rule, Derives, Spells, Goes}
use Rattle.go_grammar.specs.Rules.{Items, Rule, End, Then, Maybe, Unless, Many, item}
use Rattle.go_grammar.specs.Trees.{Tree, node, Trees, none, more, skip, first, last}
use Rattle.go_grammar.proofs.Public.{lies_within}
use Rattle.go_tree.proofs.Public.{derives_tiles}
use Rattle.go_tree.specs.declared.context.Entity.{Entity}
use Rattle.go_tree.specs.declared.context.Entity.TheVariants as entity
use Rattle.go_tree.specs.Contexts.{entity_of}
use Rattle.go_tree.specs.Views.{Tiles}
use Rattle.go_stmts_defs.specs.Bodies.{based, all_based}
use Rattle.go_package_defs.specs.Answer.{specifications}
use Rattle.go_package_defs.specs.Bodies.{is_this, those_of}
use Rattle.go_package_defs.specs.Declarations.{Specification, specification_by, specification_of, source_behind, grouped, declared, declaration, declarations, in_file}
use Rattle.go_package_defs.specs.Sources.{Source}
use Rattle.go_package_alike.specs.Portions.{IsWhole, IsDerived}
use Rattle.go_package_alike.specs.Scopes.{TokenHas, AllTokens, TokensIn}
use Rattle.go_package_alike.proofs.Marks.{branch}

-- ---- nodes that have tokens, and parts that lie one behind the other

abbrev mutual
  Laid : Tree → Type 0
  Laid (node k i j ps) = (i < j) × Tiles i j ps × AllLaid ps

  AllLaid : Trees → Type 0
  AllLaid none = Unit {0}
  AllLaid (more t ts) = Laid t × AllLaid ts
  AllLaid (skip ts) = AllLaid ts

module _ (ts : List TokenKind) where
  mutual
    derives_laid : (c : Category) (t : Tree) → Derives ts c t → Laid t
    derives_laid c (node k i j ps) h = ((lies_within ts c (node k i j ps) h).0, derives_tiles ts c (node k i j ps) h, spells_laid ps (rule (place_of c) k) i j h.1)

    spells_laid : (ps : Trees) (r : Rule) (i j : ℕ) → Spells ts r i ps j → AllLaid ps
    spells_laid none r i j h = tt
    spells_laid (more p ps) (End ws) i j h = absurd h
    spells_laid (skip ps) (End ws) i j h = absurd h
    spells_laid (more p ps) (Then ws c r) i j h = (derives_laid c p h.1, spells_laid ps r (last p) j h.2)
    spells_laid (skip ps) (Then ws c r) i j h = absurd h
    spells_laid (more p ps) (Maybe ws c r) i j h = (derives_laid c p h.1, spells_laid ps r (last p) j h.2)
    spells_laid (skip ps) (Maybe ws c r) i j h = spells_laid ps r h.0 j h.2
    spells_laid (more p ps) (Unless ws c us r) i j h = (derives_laid c p h.1, spells_laid ps r (last p) j h.2)
    spells_laid (skip ps) (Unless ws c us r) i j h = spells_laid ps r h.0 j h.3
    spells_laid (more p ps) (Many ws l) i j h = (derives_laid (item l) p h.3, goes_laid ps l (last p) j h.4)
    spells_laid (skip ps) (Many ws l) i j h = absurd h

    goes_laid : (ps : Trees) (l : Items) (i j : ℕ) → Goes ts l i ps j → AllLaid ps
    goes_laid none l i j h = tt
    goes_laid (more p ps) l i j h = (derives_laid (item l) p h.3, goes_laid ps l (last p) j h.4)
    goes_laid (skip ps) l i j h = absurd h

-- ---- the tokens of such a tree

tiles_order : (i j : ℕ) (ps : Trees) → Tiles i j ps → i ≤ j
tiles_order i j none h = h
tiles_order i j (more p ps) h = omega (arith, h.0, h.1, tiles_order (last p) j ps h.2)
tiles_order i j (skip ps) h = tiles_order i j ps h

token_has : (q : ℕ → Bool) (k : Kind) (i j : ℕ) → q i ≡ true → q (j - 1) ≡ true → TokenHas q k i j
token_has q kind.Name i j e h = e
token_has q kind.DeclaredName i j e h = e
token_has q kind.Integer i j e h = e
token_has q kind.Rune i j e h = e
token_has q kind.Text i j e h = e
token_has q kind.Keyed i j e h = e
token_has q kind.Selector i j e h = h
token_has q (kind.Specification declaring.Type) i j e h = e
token_has q k i j e h = tt

module _ (b e : ℕ) where
  abbrev inside : ℕ → Bool
  inside i = nat_lt i (e - b)

  mutual
    tokens_laid : (t : Tree) → Laid t → b ≤ first t → last t ≤ e → AllTokens inside (based b t)
    tokens_laid (node k i j ps) h from to =
        (token_has inside k (i - b) (j - b) (lt-ltb (i - b) (e - b) (omega (arith, h.0, from, to))) (lt-ltb ((j - b) - 1) (e - b) (omega (arith, h.0, from, to))), tokens_laid_in i j ps h.1 h.2 from to)

    tokens_laid_in : (i j : ℕ) (ps : Trees) → Tiles i j ps → AllLaid ps → b ≤ i → j ≤ e → TokensIn inside (all_based b ps)
    tokens_laid_in i j none h l from to = tt
    tokens_laid_in i j (more t ts) h l from to =
        (tokens_laid t l.0 (omega (arith, from, h.0)) (omega (arith, to, tiles_order (last t) j ts h.2)), tokens_laid_in (last t) j ts h.2 l.1 (omega (arith, from, h.0, h.1)) to)
    tokens_laid_in i j (skip ts) h l from to = tokens_laid_in i j ts h l from to

-- ---- declarations

abbrev AreWhole : List Specification → Type 0
AreWhole ds = AllByRecursion IsWhole ds

whole_by : (n : ℕ) (x : Entity) (k : ℕ) (r : Option Tree) (l : Kind) (i j : ℕ) (ps : Trees) → Laid (node l i j ps) → IsWhole (specification_by n x k r (node l i j ps) i j ps)
whole_by n entity.Type k r l i j ps h = (omega arith, tokens_laid i j (node l i j ps) h (omega arith) (omega arith))
whole_by n x k r l i j ps h = (omega arith, tokens_laid i j (node l i j ps) h (omega arith) (omega arith))

whole_of : (n : ℕ) (s : Sort) (k : ℕ) (r : Option Tree) (t : Tree) → Laid t → IsWhole (specification_of n s k r t)
whole_of n s k r (node l i j ps) h = whole_by n (entity_of s) k r l i j ps h

grouped_whole : (n : ℕ) (s : Sort) (k : ℕ) (r : Option Tree) (ps : Trees) → AllLaid ps → AreWhole (grouped n s k r ps)
grouped_whole n s k r none h = tt
grouped_whole n s k r (more t ts) h = (whole_of n s k r t h.0, grouped_whole n s (suc k) (source_behind r t) ts h.1)
grouped_whole n s k r (skip ts) h = grouped_whole n s k r ts h

declared_whole : (n : ℕ) (s : Sort) (ps : Trees) → AllLaid ps → AreWhole (declared n s ps)
declared_whole n s (more (node (kind.Group g) i j ps) none) h = grouped_whole n s 0 None ps h.0.2
declared_whole n s ps h = grouped_whole n s 0 None ps h

declaration_whole : (n : ℕ) (t : Tree) → Laid t → AreWhole (declaration n t)
declaration_whole n (node (kind.Declaration s) i j ps) h = declared_whole n s ps h.2
declaration_whole n (node kind.FunctionDeclaration i j ps) h = ((omega arith, tokens_laid i j (node kind.FunctionDeclaration i j ps) h (omega arith) (omega arith)), tt)
declaration_whole n t h = tt

append_all : {X : Type 0} (P : X → Type 0) (xs ys : List X) → AllByRecursion P xs → AllByRecursion P ys → AllByRecursion P (xs ++ ys)
append_all P [] ys w h = h
append_all P (x ∷ xs) ys w h = (w.0, append_all P xs ys w.1 h)

declarations_whole : (n : ℕ) (ps : Trees) → AllLaid ps → AreWhole (declarations n ps)
declarations_whole n none h = tt
declarations_whole n (more t ts) h = append_all IsWhole (declaration n t) (declarations n ts) (declaration_whole n t h.0) (declarations_whole n ts h.1)
declarations_whole n (skip ts) h = declarations_whole n ts h

file_whole : (n : ℕ) (t : Tree) → Laid t → AreWhole (in_file n t)
file_whole n (node k i j ps) h = declarations_whole n ps h.2

files_whole : (n : ℕ) (ss : List Source) → AllByRecursion IsDerived ss → AreWhole (specifications n ss)
files_whole n [] h = tt
files_whole n (s ∷ ss) h =
    append_all IsWhole (in_file n s.tree) (specifications (suc n) ss) (file_whole n s.tree (derives_laid (kinds s.tokens.tokens) category.File s.tree h.0.derives)) (files_whole (suc n) ss h.1)

those_whole : (e : Entity) (ds : List Specification) → AreWhole ds → AreWhole (those_of e ds)
those_whole e [] h = tt
those_whole e (d ∷ ds) h = branch AreWhole (is_this e d.entity) (d ∷ those_of e ds) (those_of e ds) (h.0, those_whole e ds h.1) (those_whole e ds h.1)

pub declarations_have : (n : ℕ) (ss : List Source) (e : Entity) → AllByRecursion IsDerived ss → AreWhole (those_of e (specifications n ss))
declarations_have n ss e h = those_whole e (specifications n ss) (files_whole n ss h)
