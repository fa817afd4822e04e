-- The declarations of files that are derivations over their tokens stand by themselves.
use Rattle.std.proofs.Common.{◌≡◌, ℕ, suc, ◌+◌, Bool, true, false, List, [], ◌∷◌, ◌++◌, Option, Some, None, map, refl, ap, sym, subst, ◌∙◌, arith}
use Rattle.std.specs.Prelude.{slice_get, if◌then◌else◌}
use Rattle.std.specs.List.{AllByRecursion}
use Rattle.std.specs.Option.{option_map}
use Rattle.std.proofs.lemmas.Option.{slice_get-map}
use Rattle.go_tokens.specs.Tokens.{TokenList, kinds}
use Rattle.go_tokens.specs.declared.token.TokenKind.{TokenKind}
use Rattle.go_grammar.specs.declared.kind.Category.{Category}
use Rattle.go_grammar.specs.declared.kind.Category.TheVariants as category
use Rattle.go_grammar.specs.declared.kind.Kind.{Kind}
use Rattle.go_grammar.specs.declared.kind.Kind.TheVariants as kind
use Rattle.go_grammar.specs.declared.kind.Place.TheVariants as place
use Rattle.go_grammar.specs.declared.kind.Sort.{Sort}
use Rattle.go_grammar.specs.declared.kind.Sort.TheVariants as declaring
use Rattle.go_grammar.specs.Categories.{is_sort, within, place_of}
use Rattle.go_grammar.specs.Grammar.{Derives, IsFile, rule, Spells, Goes}
use Rattle.go_grammar.specs.Rules.{Items, Many, item}
use Rattle.go_grammar.specs.Trees.{Tree, node, Trees, none, more, skip, first, last, kind_of}
use Rattle.go_tree.specs.declared.context.Entity.{Entity}
use Rattle.go_tree.specs.declared.context.Entity.TheVariants as entity
use Rattle.go_tree.specs.File.{FileTree}
use Rattle.go_tree.specs.Units.{word}
use Rattle.go_tree.specs.Uses.{UsesView}
use Rattle.go_tree.specs.Views.{view}
use Rattle.go_scopes_events.proofs.Public.{IsLaidOut, LieIn, derives_laid}
use Rattle.go_exprs_engine.specs.Literals.{AllRead, PartsRead}
use Rattle.go_exprs.proofs.Public.{AllDerive, parts_derive, file_reads}
use Rattle.go_stmts_defs.specs.Reading.{is_statement}
use Rattle.go_package_defs.specs.Answer.{specifications}
use Rattle.go_package_defs.specs.Bodies.{is_this, those_of}
use Rattle.go_package_defs.specs.Declarations.{Specification, specification_of, source_behind, grouped, declared, declaration, declarations, in_file}
use Rattle.go_package_defs.specs.Sources.{Source, tokens_there, source_of}
use Rattle.go_package_alike.specs.Portions.{IsDerived, IsWhole}
use Rattle.go_package.specs.Functions.{IsFileOf, AreFiles, IsReadable, ArePlain, IsPlain, IsStanding, AreStanding, ArePlainVariables, package_in}
use Rattle.go_package.proofs.Literals.{tree_read}

-- ---- specifications of variables have no statements

name_kind : (k : Kind) → within category.NameList k ≡ true → is_statement k ≡ false
name_kind kind.NameList e = refl
name_kind k e = cc

rest_kind : (k : Kind) → within category.VariableRest k ≡ true → is_statement k ≡ false
rest_kind kind.Values e = refl
rest_kind kind.TypedValues e = refl
rest_kind kind.Name e = refl
rest_kind kind.ParenthesizedType e = refl
rest_kind kind.SequenceType e = refl
rest_kind kind.FunctionType e = refl
rest_kind kind.StructType e = refl
rest_kind k e = cc

name_plain : (ts : List TokenKind) (p : Tree) → Derives ts category.NameList p → is_statement (kind_of p) ≡ false
name_plain ts (node k i j ps) d = name_kind k d.0

rest_plain : (ts : List TokenKind) (p : Tree) → Derives ts category.VariableRest p → is_statement (kind_of p) ≡ false
rest_plain ts (node k i j ps) d = rest_kind k d.0

parts_plain : (ts : List TokenKind) (i : ℕ) (ps : Trees) (j : ℕ) → Spells ts (rule place.Free (kind.Specification declaring.Variable)) i ps j → ArePlain ps
parts_plain ts i none j h = absurd h
parts_plain ts i (skip ps) j h = absurd h
parts_plain ts i (more p none) j h = absurd h.2
parts_plain ts i (more p (skip ps)) j h = absurd h.2
parts_plain ts i (more p (more q none)) j h = (name_plain ts p h.1, (rest_plain ts q h.2.1, tt))
parts_plain ts i (more p (more q (more o ps))) j h = absurd h.2.2
parts_plain ts i (more p (more q (skip ps))) j h = absurd h.2.2

-- ---- which nodes are specifications

same_sort : (a b : Sort) → is_sort a b ≡ true → a ≡ b
same_sort declaring.Constant declaring.Constant e = refl
same_sort declaring.Type declaring.Type e = refl
same_sort declaring.Variable declaring.Variable e = refl
same_sort declaring.Constant declaring.Type e = cc
same_sort declaring.Constant declaring.Variable e = cc
same_sort declaring.Type declaring.Constant e = cc
same_sort declaring.Type declaring.Variable e = cc
same_sort declaring.Variable declaring.Constant e = cc
same_sort declaring.Variable declaring.Type e = cc

-- a specification of this sort
abbrev IsOfSort : List TokenKind → Sort → Tree → Type 0
IsOfSort ts s (node (kind.Specification r) i j ps) = (s ≡ r) × Spells ts (rule place.Free (kind.Specification r)) i ps j
IsOfSort ts s t = ⊥

abbrev AllOfSort : List TokenKind → Sort → Trees → Type 0
AllOfSort ts s none = Unit {0}
AllOfSort ts s (more p ps) = IsOfSort ts s p × AllOfSort ts s ps
AllOfSort ts s (skip ps) = AllOfSort ts s ps

module _ (ts : List TokenKind) where
  specified : (s : Sort) (t : Tree) → Derives ts (category.Specification s) t → IsOfSort ts s t
  specified s (node (kind.Specification r) i j ps) d = (same_sort s r d.0, d.1)
  specified s (node k i j ps) d = cc

  goes_sorted : (s : Sort) (l : Items) (i : ℕ) (ps : Trees) (j : ℕ) → item l ≡ category.Specification s → Goes ts l i ps j → AllOfSort ts s ps
  goes_sorted s l i none j e h = tt
  goes_sorted s l i (more p ps) j e h = (specified s p (subst (λ c. Derives ts c p) e h.3), goes_sorted s l (last p) ps j e h.4)
  goes_sorted s l i (skip ps) j e h = absurd h

  many_sorted : (s : Sort) (ws : List TokenKind) (l : Items) (i : ℕ) (ps : Trees) (j : ℕ) → item l ≡ category.Specification s → Spells ts (Many ws l) i ps j → AllOfSort ts s ps
  many_sorted s ws l i none j e h = tt
  many_sorted s ws l i (more p ps) j e h = (specified s p (subst (λ c. Derives ts c p) e h.3), goes_sorted s l (last p) ps j e h.4)
  many_sorted s ws l i (skip ps) j e h = absurd h

-- ---- the declarations of one file

abbrev PlainIf : Entity → Option Tree → Type 0
PlainIf entity.Variable t = IsPlain t
PlainIf e t = Unit {0}

-- the declaration is a node of the file of these tokens
record IsOf (n : ℕ) (l : TokenList) (d : Specification) : Type 0 where
  pub file : d.file ≡ n
  pub tree : Tree
  pub is : d.tree ≡ Some tree
  pub begins : first tree ≡ d.first
  pub laid : IsLaidOut tree
  pub literals : AllRead (word l) tree
  pub plain : PlainIf d.entity d.tree

module _ (n : ℕ) (l : TokenList) where
  abbrev AllOf : List Specification → Type 0
  AllOf ds = AllByRecursion (IsOf n l) ds

  one : (s : Sort) (k : ℕ) (r : Option Tree) (t : Tree) → IsOfSort (kinds l.tokens) s t → IsLaidOut t → AllRead (word l) t → IsOf n l (specification_of n s k r t)
  one declaring.Constant k r (node (kind.Specification q) i j ps) h laid reads = record { file = refl; tree = node (kind.Specification q) i j ps; is = refl; begins = refl; laid = laid; literals = reads; plain = tt }
  one declaring.Type k r (node (kind.Specification q) i j ps) h laid reads = record { file = refl; tree = node (kind.Specification q) i j ps; is = refl; begins = refl; laid = laid; literals = reads; plain = tt }
  one declaring.Variable k r (node (kind.Specification declaring.Variable) i j ps) h laid reads = record {
    file = refl;
    tree = node
        (kind.Specification declaring.Variable) i j ps;
    is = refl;
    begins = refl;
    laid = laid;
    literals = reads;
    plain = parts_plain (kinds l.tokens) i ps j h.1;
  }
  one declaring.Variable k r (node (kind.Specification declaring.Constant) i j ps) h laid reads = cc
  one declaring.Variable k r (node (kind.Specification declaring.Type) i j ps) h laid reads = cc
  one s k r (node m i j ps) h laid reads = absurd h

  group : (s : Sort) (k : ℕ) (r : Option Tree) (a j : ℕ) (ps : Trees) → AllOfSort (kinds l.tokens) s ps → LieIn a j ps → PartsRead (word l) ps → AllOf (grouped n s k r ps)
  group s k r a j none h laid reads = tt
  group s k r a j (more p ps) h laid reads = (one s k r p h.0 laid.1 reads.0, group s (suc k) (source_behind r p) (last p) j ps h.1 laid.2 reads.1)
  group s k r a j (skip ps) h laid reads = group s k r a j ps h laid reads

  declared_all : (s : Sort) (i : ℕ) (ps : Trees) (j : ℕ) → Spells (kinds l.tokens) (rule place.Free (kind.Declaration s)) i ps j → (a : ℕ) → LieIn a j ps → PartsRead (word l) ps → AllOf (declared n s ps)
  declared_all s i none j h a laid reads = absurd h
  declared_all s i (skip ps) j h a laid reads = absurd h
  declared_all s i (more p (more q ps)) j h a laid reads = absurd h.2
  declared_all s i (more p (skip ps)) j h a laid reads = absurd h.2
  declared_all s i (more (node (kind.Group g) f e qs) none) j h a laid reads =
      let same = same_sort s g h.1.0 in
      group s 0 None _ e qs (many_sorted (kinds l.tokens) s _ _ f qs e (ap category.Specification (sym same)) h.1.1) laid.1.1 reads.0.1
  declared_all s i (more (node (kind.Specification r) f e qs) none) j h a laid reads =
      group s 0 None a j (more (node (kind.Specification r) f e qs) none) ((same_sort s r h.1.0, h.1.1), tt) laid reads
  declared_all s i (more (node k f e qs) none) j h a laid reads = cc

  both : (xs ys : List Specification) → AllOf xs → AllOf ys → AllOf (xs ++ ys)
  both [] ys h k = k
  both (x ∷ xs) ys h k = (h.0, both xs ys h.1 k)

  declaration_all : (c : Category) (t : Tree) → Derives (kinds l.tokens) c t → IsLaidOut t → AllRead (word l) t → AllOf (declaration n t)
  declaration_all c (node (kind.Declaration s) i j ps) d laid reads = declared_all s i ps j d.1 _ laid.1 reads.1
  declaration_all c (node kind.FunctionDeclaration i j ps) d laid reads =
      (record { file = refl; tree = node kind.FunctionDeclaration i j ps; is = refl; begins = refl; laid = laid; literals = reads; plain = tt }, tt)
  declaration_all c (node k i j ps) d laid reads = tt

  declarations_all : (ps : Trees) (a j : ℕ) → AllDerive (kinds l.tokens) ps → LieIn a j ps → PartsRead (word l) ps → AllOf (declarations n ps)
  declarations_all none a j d laid reads = tt
  declarations_all (more p ps) a j d laid reads =
      both (declaration n p) (declarations n ps) (declaration_all d.0.0 p d.0.1 laid.1 reads.0) (declarations_all ps (last p) j d.1 laid.2 reads.1)
  declarations_all (skip ps) a j d laid reads = declarations_all ps a j d laid reads

  file_all : (t : Tree) → IsFile (kinds l.tokens) t → AllRead (word l) t → AllOf (in_file n t)
  file_all (node k i j ps) h reads =
      declarations_all ps _ j (parts_derive (kinds l.tokens) (rule (place_of category.File) k) i ps j h.derives.1) (derives_laid (kinds l.tokens) (node k i j ps) category.File h.derives).1 reads.1

-- ---- the declarations of a package

-- each is a node of its own file
abbrev Belongs : List Source → Specification → Type 0
Belongs all d = (n : ℕ) × IsOf n (tokens_there (slice_get all d.file)) d

abbrev IsReady : Source → Type 0
IsReady s = IsFile (kinds s.tokens.tokens) s.tree × AllRead (word s.tokens) s.tree

abbrev AreReady : List Source → ℕ → List Source → Type 0
AreReady all n ss = (k : ℕ) (s : Source) → slice_get ss k ≡ Some s → (slice_get all (n + k) ≡ Some s) × IsReady s

module _ (all : List Source) where
  joined : (xs ys : List Specification) → AllByRecursion (Belongs all) xs → AllByRecursion (Belongs all) ys → AllByRecursion (Belongs all) (xs ++ ys)
  joined [] ys h k = k
  joined (x ∷ xs) ys h k = (h.0, joined xs ys h.1 k)

  in_its_file : (n : ℕ) (s : Source) → slice_get all n ≡ Some s → (ds : List Specification) → AllByRecursion (IsOf n s.tokens) ds → AllByRecursion (Belongs all) ds
  in_its_file n s at [] h = tt
  in_its_file n s at (d ∷ ds) h = ((n, subst (λ l. IsOf n l d) (sym (ap tokens_there (ap (slice_get all) h.0.file ∙ at))) h.0), in_its_file n s at ds h.1)

  belong : (n : ℕ) (ss : List Source) → AreReady all n ss → AllByRecursion (Belongs all) (specifications n ss)
  belong n [] h = tt
  belong n (s ∷ ss) h =
      let here = h 0 s refl in
      let at : slice_get all n ≡ Some s = (let e : n ≡ n + 0 = omega arith in ap (slice_get all) e ∙ here.0) in
      joined (in_file n s.tree) (specifications (suc n) ss) (in_its_file n s at (in_file n s.tree) (file_all n s.tokens s.tree here.1.0 here.1.1))
      (belong (suc n) ss (λ k r e. let next = h (suc k) r e in (let m : suc n + k ≡ n + suc k = omega arith in ap (slice_get all) m ∙ next.0, next.1)))

ready : (files : List FileTree) → AreFiles files → AreReady (map source_of files) 0 (map source_of files)
ready files h k s e = (let m : 0 + k ≡ k = omega arith in ap (slice_get (map source_of files)) m ∙ e, of (slice_get files k) (λ f at. h k f at) (sym (slice_get-map source_of files k) ∙ e))
  where
    of : (o : Option FileTree) → ((f : FileTree) → o ≡ Some f → IsFileOf k f) → option_map source_of o ≡ Some s → IsReady s
    of None g e = cc
    of (Some f) g e =
        let its = g f refl in
        subst IsReady (let same : source_of f ≡ s = cc in same) (its.tree, file_reads k f.tokens its.lexing (view f.root) its.tree)

-- ---- those of a sort

chosen : (P : Specification → Type 0) (e : Entity) (ds : List Specification) → AllByRecursion P ds → AllByRecursion P (those_of e ds)
chosen P e [] h = tt
chosen P e (d ∷ ds) h = by (is_this e d.entity) (chosen P e ds h.1)
  where
    by : (b : Bool) → AllByRecursion P (those_of e ds) → AllByRecursion P (if b then d ∷ those_of e ds else those_of e ds)
    by true rest = (h.0, rest)
    by false rest = rest

readable : (n : ℕ) (l : TokenList) (d : Specification) → IsOf n l d → IsReadable l d.first d.tree
readable n l d h = subst (IsReadable l d.first) (sym h.is) (tree_read l d.first h.tree h.laid (let e = h.begins in omega (arith, e)) h.literals)

module _ (files : List FileTree) (uses : UsesView) (known : AreFiles files) where
  stand : (ds : List Specification) → AllByRecursion (Belongs (map source_of files)) ds → AllByRecursion IsWhole ds → AllByRecursion (IsStanding (package_in files uses)) ds
  stand [] h w = tt
  stand (d ∷ ds) h w = (record { whole = w.0; literals = readable h.0.0 _ d h.0.1 }, stand ds h.1 w.1)

  abbrev all : List Specification
  all = specifications 0 (map source_of files)

  pub all_stand : (e : Entity) → AllByRecursion IsWhole (those_of e all) → AreStanding (package_in files uses) e all
  all_stand e w = stand (those_of e all) (chosen (Belongs (map source_of files)) e all (belong (map source_of files) 0 (map source_of files) (ready files known))) w

  plain_each : (ds : List Specification) → AllByRecursion (Belongs (map source_of files)) ds → ArePlainVariables ds
  plain_each [] h = tt
  plain_each (d ∷ ds) h = by d.entity h.0.1.plain (plain_each ds h.1)
    where
      by : (e : Entity) → PlainIf e d.tree → ArePlainVariables ds → AllByRecursion (λ d. IsPlain d.tree) (if is_this entity.Variable e then d ∷ those_of entity.Variable ds else those_of entity.Variable ds)
      by entity.Variable p rest = (p, rest)
      by e p rest = rest

  pub all_plain : ArePlainVariables all
  all_plain = plain_each all (belong (map source_of files) 0 (map source_of files) (ready files known))

-- the files are derivations
pub all_derived : (files : List FileTree) → AreFiles files → AllByRecursion IsDerived (map source_of files)
all_derived [] h = tt
all_derived (f ∷ fs) h = ((h 0 f refl).tree, after fs 1 (λ k g e. (h (suc k) g e).tree))
  where
    after : (fs : List FileTree) (n : ℕ) → ((k : ℕ) (g : FileTree) → slice_get fs k ≡ Some g → IsFile (kinds g.tokens.tokens) (view g.root)) → AllByRecursion IsDerived (map source_of fs)
    after [] n h = tt
    after (f ∷ fs) n h = (h 0 f refl, after fs (suc n) (λ k g e. h (suc k) g e))
