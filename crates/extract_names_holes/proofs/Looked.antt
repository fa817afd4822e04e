-- The expressions that names stand in the place of declare nothing.
use Rattle.std.proofs.Common.{◌≡◌, ℕ, zero, suc, Bool, true, false, List, [], ◌∷◌, ◌++◌, Some, None, refl, sym, subst}
use Rattle.std.specs.Prelude.{if◌then◌else◌}
use Rattle.std.specs.List.{AllByRecursion}
use Rattle.go_tokens.specs.declared.token.TokenKind.{TokenKind}
use Rattle.go_grammar.specs.declared.kind.Kind.{Kind}
use Rattle.go_grammar.specs.declared.kind.Kind.TheVariants as kind
use Rattle.go_grammar.specs.declared.kind.Sort.TheVariants as sort
use Rattle.go_grammar.specs.declared.kind.Category.{Category}
use Rattle.go_grammar.specs.declared.kind.Category.TheVariants as category
use Rattle.go_grammar.specs.Categories.{is_expression, place_of}
use Rattle.go_grammar.specs.Grammar.{Derives, Spells, Goes, ends_named, is_name, rule}
use Rattle.go_grammar.specs.Rules.{Items, Rule, End, Then, Maybe, Unless, Many, item}
use Rattle.go_grammar.specs.Trees.{Tree, node, Trees, none, more, skip, kind_of, last}
use Rattle.go_rewriting.specs.Lists.{Subtree}
use Rattle.go_rewriting.specs.Places.{Patch, Patches, keep, put, inside, done, part, run}
use Rattle.go_rewriting.specs.Replacing.{subtree_at, subtree_in}
use Rattle.go_rewriting.specs.Sites.{whole, parts_of, next_patch, other_patches, nth_patch, set_patch, insert}
use Rattle.go_tree.specs.declared.context.Context.{Context}
use Rattle.go_tree.specs.declared.context.Role.{Role}
use Rattle.go_tree.specs.declared.context.Role.TheVariants as role
use Rattle.go_tree.specs.declared.event.Event.{Event}
use Rattle.go_tree.specs.declared.event.Event.TheVariants as event
use Rattle.go_tree.specs.Contexts.{enter, called_in, if_name, role_in, parameters_in}
use Rattle.go_tree.specs.Events.{begin, events, is_more, pass}
use Rattle.go_scopes_events.specs.Orders.{EachDeclared}
use Rattle.go_scopes_events.proofs.Public.{AreInner, ArePlain, Holding, IsInner, IsLaidOut, IsOnly, IsPlain, ScopeGives, all_plain, and_both, derives_inner, derives_laid, has_plain, is_plain, is_top, layer, plain_only, rule_plain, true_false, within_plain}
use Rattle.extract_names.specs.Copies.{Copy}
use Rattle.extract_names.specs.Pieces.{Piece, stays, gap}
use Rattle.extract_names.specs.Sites.{EachEvent}
use Rattle.extract_names_derived.specs.Apart.{HolesLook, IsNoDeclaration}
use Rattle.extract_names_derived.specs.Holes.{may_be_replaced, gives_operands, name_over, HolesIn, HolesInRow, HolesInList, hole_pieces, hole_row, hole_list}
use Rattle.extract_names_derived.specs.News.{DeriveWithin}
use Rattle.extract_names_holes.specs.Spots.{Spot, SpotStands, SpotsLook, spot_patches}
use Rattle.extract_names_holes.proofs.Inserted.{spots_inside}

-- ---- derived expressions declare nothing

expression_plain : (k : Kind) → is_expression k ≡ true → is_plain k ≡ true
expression_plain kind.Name e = refl
expression_plain kind.Integer e = refl
expression_plain kind.Rune e = refl
expression_plain kind.Text e = refl
expression_plain kind.Parenthesized e = refl
expression_plain kind.Selector e = refl
expression_plain kind.Bracketed e = refl
expression_plain kind.Call e = refl
expression_plain kind.Composite e = refl
expression_plain kind.SequenceType e = refl
expression_plain kind.FunctionType e = refl
expression_plain kind.StructType e = refl
expression_plain (kind.Unary s) e = refl
expression_plain (kind.Binary o) e = refl
expression_plain k e = absurd (true_false false e refl)

plain_holds : (k : Kind) → is_plain k ≡ true → layer k ≡ Holding
plain_holds (kind.Specification s) e = absurd (true_false false e refl)
plain_holds kind.Define e = absurd (true_false false e refl)
plain_holds kind.DefiningRange e = absurd (true_false false e refl)
plain_holds kind.FunctionDeclaration e = absurd (true_false false e refl)
plain_holds k e = refl

module _ (ts : List TokenKind) where
  mutual
    derives_plain : (t : Tree) (c : Category) → has_plain c ≡ true → Derives ts c t → IsPlain t
    derives_plain (node k i j ps) c e h =
        let plain : is_plain k ≡ true = within_plain c k e h.0 in
        (plain_holds k plain, spells_plain ps (rule (place_of c) k) i j (rule_plain (place_of c) k plain) h.1)

    spells_plain : (ps : Trees) (r : Rule) (i j : ℕ) → all_plain r ≡ true → Spells ts r i ps j → ArePlain ps
    spells_plain none r i j e h = tt
    spells_plain (more p ps) (End ws) i j e h = absurd h
    spells_plain (skip ps) (End ws) i j e h = absurd h
    spells_plain (more p ps) (Then ws c r) i j e h = let b = and_both (has_plain c) (all_plain r) e in (derives_plain p c b.0 h.1, spells_plain ps r (last p) j b.1 h.2)
    spells_plain (skip ps) (Then ws c r) i j e h = absurd h
    spells_plain (more p ps) (Maybe ws c r) i j e h = let b = and_both (has_plain c) (all_plain r) e in (derives_plain p c b.0 h.1, spells_plain ps r (last p) j b.1 h.2)
    spells_plain (skip ps) (Maybe ws c r) i j e h = spells_plain ps r h.0 j (and_both (has_plain c) (all_plain r) e).1 h.2
    spells_plain (more p ps) (Unless ws c us r) i j e h = let b = and_both (has_plain c) (all_plain r) e in (derives_plain p c b.0 h.1, spells_plain ps r (last p) j b.1 h.2)
    spells_plain (skip ps) (Unless ws c us r) i j e h = spells_plain ps r h.0 j (and_both (has_plain c) (all_plain r) e).1 h.3
    spells_plain (more p ps) (Many ws l) i j e h = (derives_plain p (item l) e h.3, goes_plain ps l (last p) j e h.4)
    spells_plain (skip ps) (Many ws l) i j e h = absurd h

    goes_plain : (ps : Trees) (l : Items) (i j : ℕ) → has_plain (item l) ≡ true → Goes ts l i ps j → ArePlain ps
    goes_plain none l i j e h = tt
    goes_plain (more p ps) l i j e h = (derives_plain p (item l) e h.3, goes_plain ps l (last p) j e h.4)
    goes_plain (skip ps) l i j e h = absurd h

  expression_derived : (t : Tree) (c : Category) → is_expression (kind_of t) ≡ true → Derives ts c t → IsPlain t
  expression_derived (node k i j ps) c e h =
      let plain : is_plain k ≡ true = expression_plain k e in
      (plain_holds k plain, spells_plain ps (rule (place_of c) k) i j (rule_plain (place_of c) k plain) h.1)

  pub statement_at : (n i j : ℕ) (ps : Trees) (t : Tree) → DeriveWithin ts i j ps → subtree_in n [] ps ≡ Some t → Derives ts category.Statement t
  statement_at n i j none t d e = absurd cc
  statement_at zero i j (more p ps) t d e = let same : p ≡ t = cc in subst (λ z. Derives ts category.Statement z) same d.0
  statement_at (suc n) i j (more p ps) t d e = statement_at n i j ps t d.3 e
  statement_at zero i j (skip ps) t d e = absurd cc
  statement_at (suc n) i j (skip ps) t d e = statement_at n i j ps t d e

  statements_inner : (i j : ℕ) (ps : Trees) → DeriveWithin ts i j ps → AreInner ps
  statements_inner i j none d = tt
  statements_inner i j (more p ps) d = (derives_inner ts p category.Statement refl d.0, statements_inner i j ps d.3)
  statements_inner i j (skip ps) d = statements_inner i j ps d

pub below_top : (n : ℕ) (path : List ℕ) (ps : Trees) (t s : Tree) → subtree_in n [] ps ≡ Some t → subtree_in n path ps ≡ Some s → subtree_at path t ≡ Some s
below_top n path none t s e f = absurd cc
below_top zero path (more p ps) t s e f = let same : p ≡ t = cc in subst (λ z. subtree_at path z ≡ Some s) same f
below_top (suc n) path (more p ps) t s e f = below_top n path ps t s e f
below_top zero path (skip ps) t s e f = absurd cc
below_top (suc n) path (skip ps) t s e f = below_top n path ps t s e f

-- ---- what is replaced is plain

abbrev mutual
  PutsPlain : Tree → Patch → Type 0
  PutsPlain t keep = Unit {0}
  PutsPlain t (put s) = IsPlain t × IsLaidOut t
  PutsPlain (node k i j ps) (inside qs) = PutPlainIn ps qs

  PutPlainIn : Trees → Patches → Type 0
  PutPlainIn ps done = Unit {0}
  PutPlainIn none (part q qs) = Unit {0}
  PutPlainIn (more p ps) (part q qs) = PutsPlain p q × PutPlainIn ps qs
  PutPlainIn (skip ps) (part q qs) = PutPlainIn ps qs
  PutPlainIn ps (run n new qs) = ⊥

row_next : (p : Tree) (ps : Trees) (qs : Patches) → PutPlainIn (more p ps) qs → PutsPlain p (next_patch qs)
row_next p ps done s = tt
row_next p ps (part q qs) s = s.0
row_next p ps (run n new qs) s = absurd s

row_other : (p : Tree) (ps : Trees) (qs : Patches) → PutPlainIn (more p ps) qs → PutPlainIn ps (other_patches qs)
row_other p ps done s = tt
row_other p ps (part q qs) s = s.1
row_other p ps (run n new qs) s = absurd s

row_skip : (ps : Trees) (qs : Patches) → PutPlainIn (skip ps) qs → PutPlainIn ps (other_patches qs)
row_skip ps done s = tt
row_skip ps (part q qs) s = s
row_skip ps (run n new qs) s = absurd s

node_parts : (k : Kind) (a b : ℕ) (ps : Trees) (q : Patch) → PutsPlain (node k a b ps) q → PutPlainIn ps (parts_of q)
node_parts k a b ps keep s = tt
node_parts k a b ps (put t) s = tt
node_parts k a b ps (inside qs) s = s

module _ (stood new : Tree) (plain : IsPlain stood × IsLaidOut stood) where
  mutual
    insert_plain : (path : List ℕ) (t : Tree) (q : Patch) → subtree_at path t ≡ Some stood → PutsPlain t q → PutsPlain t (insert path (whole new) q)
    insert_plain [] t q e s = let same : stood ≡ t = cc in subst (λ z. IsPlain z × IsLaidOut z) same plain
    insert_plain (n ∷ path) (node k a b ps) q e s = set_plain n path ps (parts_of q) e (node_parts k a b ps q s)

    set_plain : (n : ℕ) (path : List ℕ) (ps : Trees) (qs : Patches) → subtree_in n path ps ≡ Some stood → PutPlainIn ps qs → PutPlainIn ps (set_patch n (insert path (whole new) (nth_patch n qs)) qs)
    set_plain n path none qs e s = absurd cc
    set_plain zero path (more p ps) qs e s = (insert_plain path p (next_patch qs) e (row_next p ps qs s), row_other p ps qs s)
    set_plain (suc n) path (more p ps) qs e s = (row_next p ps qs s, set_plain n path ps (other_patches qs) e (row_other p ps qs s))
    set_plain zero path (skip ps) qs e s = absurd cc
    set_plain (suc n) path (skip ps) qs e s = set_plain n path ps (other_patches qs) e (row_skip ps qs s)

-- Derived trees have derived subtrees.
abbrev pub SubtreesStand : Type 0
SubtreesStand = (ts : List TokenKind) (c : Category) (t s : Tree) (path : List ℕ) → Derives ts c t → subtree_at path t ≡ Some s → Subtree ts c t path s

spots_plain : SubtreesStand → (us : List TokenKind) (i j : ℕ) (v : ℕ → ℕ) (ps : Trees) (ss : List Spot) → DeriveWithin us i j ps → AllByRecursion (SpotStands ps) ss → PutPlainIn ps (spot_patches v ss)
spots_plain f us i j v ps [] d h = tt
spots_plain f us i j v ps (s ∷ ss) d h =
    let a = h.0 in
    let path : List ℕ = s.part ∷ s.path in
    let sub = f us category.Statement a.top a.stood path (statement_at us s.statement i j ps a.top d a.at_statement) (below_top s.statement path ps a.top a.stood a.at_statement a.at_path) in
    set_plain a.stood (name_over (v s.from)) (expression_derived us a.stood sub.category a.expression sub.derives, derives_laid us a.stood sub.category sub.derives) s.statement path ps (spot_patches v ss) a.at_path (spots_plain f us i j v ps ss d h.1)

-- ---- roles

-- A name in this role declares nothing.
abbrev Gives : Role → Type 0
Gives (role.New d) = ⊥
Gives (role.Parameter g s) = ScopeGives None s
Gives r = Unit {0}

name_gives : (p : Tree) (r : Role) → Gives r → Gives (if_name p r)
name_gives p r h = elim (is_name (kind_of p)) as (λ b. Gives (if b then r else role.Operand)) [ true ↦ h | false ↦ tt ]

called_gives : (r : Role) → Gives (called_in r)
called_gives role.Called = tt
called_gives r = tt

-- where an expression may become a name
replaced_role : (o : Bool) (x : Context) (k : Kind) (i j : ℕ) (named : Bool) (n : ℕ) (p : Tree) → may_be_replaced o k n ≡ true → (o ≡ true → Gives x.role) → Gives (role_in x k i j named n p)
replaced_role o x kind.ExpressionList i j named n p e g = name_gives p x.role (g e)
replaced_role o x kind.Call i j named zero p e g = absurd (true_false false e refl)
replaced_role o x kind.Call i j named (suc n) p e g = tt
replaced_role o x kind.Keyed i j named zero p e g = absurd (true_false false e refl)
replaced_role o x kind.Keyed i j named (suc n) p e g = tt
replaced_role o x kind.Define i j named zero p e g = absurd (true_false false e refl)
replaced_role o x kind.Define i j named (suc n) p e g = tt
replaced_role o x kind.DefiningRange i j named zero p e g = absurd (true_false false e refl)
replaced_role o x kind.DefiningRange i j named (suc n) p e g = tt
replaced_role o x (kind.Specification s) i j named n p e g = absurd (true_false false e refl)
replaced_role o x kind.NameList i j named n p e g = absurd (true_false false e refl)
replaced_role o x kind.NewNames i j named n p e g = absurd (true_false false e refl)
replaced_role o x kind.Selector i j named n p e g = absurd (true_false false e refl)
replaced_role o x kind.Fields i j named n p e g = absurd (true_false false e refl)
replaced_role o x kind.Parameters i j named n p e g = absurd (true_false false e refl)
replaced_role o x kind.Parameter i j named n p e g = absurd (true_false false e refl)
replaced_role o x kind.Parenthesized i j named n p e g = called_gives x.role
replaced_role o x k i j named n p e g = tt

-- and where operands stand
operand_role : (x : Context) (k : Kind) (i j : ℕ) (named : Bool) (n : ℕ) (p : Tree) → gives_operands k n ≡ true → Gives (role_in x k i j named n p)
operand_role x (kind.Specification s) i j named zero p e = absurd (true_false false e refl)
operand_role x (kind.Specification sort.Constant) i j named (suc n) p e = tt
operand_role x (kind.Specification sort.Type) i j named (suc n) p e = tt
operand_role x (kind.Specification sort.Variable) i j named (suc n) p e = tt
operand_role x kind.Define i j named zero p e = absurd (true_false false e refl)
operand_role x kind.Define i j named (suc n) p e = tt
operand_role x kind.DefiningRange i j named zero p e = absurd (true_false false e refl)
operand_role x kind.DefiningRange i j named (suc n) p e = tt
operand_role x kind.Call i j named zero p e = absurd (true_false false e refl)
operand_role x kind.Call i j named (suc n) p e = tt
operand_role x kind.Fields i j named zero p e = absurd (true_false false e refl)
operand_role x kind.Fields i j named (suc n) p e = tt
operand_role x kind.Keyed i j named zero p e = absurd (true_false false e refl)
operand_role x kind.Keyed i j named (suc n) p e = tt
operand_role x kind.Parameter i j named zero p e = absurd (true_false false e refl)
operand_role x kind.Parameter i j named (suc n) p e = tt
operand_role x kind.NameList i j named n p e = absurd (true_false false e refl)
operand_role x kind.NewNames i j named n p e = absurd (true_false false e refl)
operand_role x kind.ExpressionList i j named n p e = absurd (true_false false e refl)
operand_role x kind.Parenthesized i j named n p e = absurd (true_false false e refl)
operand_role x kind.Selector i j named n p e = absurd (true_false false e refl)
operand_role x kind.Parameters i j named n p e = absurd (true_false false e refl)
operand_role x k i j named n p e = tt

below_parameters : (x : Context) (k : Kind) (j : ℕ) (ps : Trees) (n : ℕ) (p : Tree) → is_top k ≡ false → ScopeGives None x.parameters → ScopeGives None (parameters_in x k j ps n p)
below_parameters x kind.FunctionDeclaration j ps n p top s = absurd (true_false true refl top)
below_parameters x kind.FunctionType j ps n p top s = tt
below_parameters x k j ps n p top s = s

-- ---- what is told

none_declared : (es : List Event) → EachDeclared (IsOnly None) es → EachEvent IsNoDeclaration es
none_declared [] h = tt
none_declared (event.Declaration d ∷ es) h = let no : Some d.scope ≡ None = h.0.same in absurd cc
none_declared (e ∷ es) h = (tt, none_declared es h)

abbrev as_role : Context → Role → Context
as_role x r = record x { role = r }

plain_looks : (x : Context) (r : Role) (t : Tree) → IsPlain t × IsLaidOut t → Gives r → ScopeGives None x.parameters → EachEvent IsNoDeclaration (events (as_role x r) t)
plain_looks x (role.New d) t h g s = absurd g
plain_looks x (role.Field n) t h g s = none_declared (events (as_role x (role.Field n)) t) (plain_only None (as_role x (role.Field n)) t h.0 h.1 tt tt s)
plain_looks x (role.Key n) t h g s = none_declared (events (as_role x (role.Key n)) t) (plain_only None (as_role x (role.Key n)) t h.0 h.1 tt tt s)
plain_looks x (role.Parameter n y) t h g s = none_declared (events (as_role x (role.Parameter n y)) t) (plain_only None (as_role x (role.Parameter n y)) t h.0 h.1 tt g s)
plain_looks x (role.Selected n b) t h g s = none_declared (events (as_role x (role.Selected n b)) t) (plain_only None (as_role x (role.Selected n b)) t h.0 h.1 tt tt s)
plain_looks x role.Operand t h g s = none_declared (events (as_role x role.Operand) t) (plain_only None (as_role x role.Operand) t h.0 h.1 tt tt s)
plain_looks x role.Assigned t h g s = none_declared (events (as_role x role.Assigned) t) (plain_only None (as_role x role.Assigned) t h.0 h.1 tt tt s)
plain_looks x role.Called t h g s = none_declared (events (as_role x role.Called) t) (plain_only None (as_role x role.Called) t h.0 h.1 tt tt s)

look_append : (ps qs : List Piece) → HolesLook ps → HolesLook qs → HolesLook (ps ++ qs)
look_append [] qs h g = g
look_append (stays es ∷ ps) qs h g = look_append ps qs h g
look_append (gap old new ∷ ps) qs h g = (h.0, look_append ps qs h.1 g)

module _ (c : Copy) where
  mutual
    tree_looks : (x : Context) (o : Bool) (t : Tree) (q : Patch) → IsInner t → HolesIn c.place o t q → PutsPlain t q → (o ≡ true → Gives x.role) → ScopeGives None x.parameters → HolesLook (hole_pieces c x t q)
    tree_looks x o t keep inner h w r s = tt
    tree_looks x o t (put u) inner h w r s = absurd h
    tree_looks x o (node k i j ps) (inside qs) inner h w r s = row_looks (begin x k) o k i j ps 0 ps qs inner.0 inner.1 h.1 w r s

    row_looks : (x : Context) (o : Bool) (k : Kind) (i j : ℕ) (ps : Trees) (n : ℕ) (rs : Trees) (qs : Patches) → is_top k ≡ false → AreInner rs → HolesInRow c.place o k n rs qs → PutPlainIn rs qs → (o ≡ true → Gives x.role)
        → ScopeGives None x.parameters → HolesLook (hole_row c x k i j ps n rs qs)
    row_looks x o k i j ps n rs done top inner h w r s = tt
    row_looks x o k i j ps n none (part q qs) top inner h w r s = tt
    row_looks x o k i j ps n (more p rs) (part keep qs) top inner h w r s = row_looks (pass x p) o k i j ps (suc n) rs qs top inner.1 h w.1 r s
    row_looks x o k i j ps n (more p rs) (part (put u) qs) top inner h w r s = (
      plain_looks (enter x k i j ps (ends_named ps) n p (is_more rs)) (role_in x k i j (ends_named ps) n p) p w.0 (replaced_role o x k i j (ends_named ps) n p h.0 r) (below_parameters x k j ps n p top s),
      row_looks (pass x p) o k i j ps (suc n) rs qs top inner.1 h.3 w.1 r s,
    )
    row_looks x o k i j ps n (more p rs) (part (inside ts) qs) top inner h w r s =
        look_append (hole_pieces c (enter x k i j ps (ends_named ps) n p (is_more rs)) p (inside ts)) (hole_row c (pass x p) k i j ps (suc n) rs qs)
        (tree_looks (enter x k i j ps (ends_named ps) n p (is_more rs)) (gives_operands k n) p (inside ts) inner.0 h.0 w.0 (operand_role x k i j (ends_named ps) n p) (below_parameters x k j ps n p top s))
        (row_looks (pass x p) o k i j ps (suc n) rs qs top inner.1 h.1 w.1 r s)
    row_looks x o k i j ps n (skip rs) (part q qs) top inner h w r s = row_looks x o k i j ps (suc n) rs qs top inner h w r s
    row_looks x o k i j ps n rs (run m new qs) top inner h w r s = absurd h

  list_looks : (x : Context) (f : Bool) (ps : Trees) (qs : Patches) → AreInner ps → HolesInList c.place ps qs → PutPlainIn ps qs → Gives x.role → ScopeGives None x.parameters → HolesLook (hole_list c x f ps qs)
  list_looks x f ps done inner h w r s = tt
  list_looks x f none (part q qs) inner h w r s = tt
  list_looks x f (more p ps) (part q qs) inner h w r s =
      look_append (hole_pieces c _ p q) (hole_list c x f ps qs) (tree_looks _ false p q inner.0 h.0 w.0 (λ e. r) s) (list_looks x f ps qs inner.1 h.1 w.1 r s)
  list_looks x f (skip ps) (part q qs) inner h w r s = list_looks x f ps qs inner h w r s
  list_looks x f ps (run m new qs) inner h w r s = absurd h

pub spots_look : SubtreesStand → SpotsLook
spots_look f us i j c x followed ps ss d h role parameters =
    list_looks c x followed ps (spot_patches c.place ss) (statements_inner us i j ps d) (spots_inside c.place ps ss h) (spots_plain f us i j c.place ps ss d h)
    (subst (Gives) (sym role) tt) (subst (ScopeGives None) (sym parameters) tt)
