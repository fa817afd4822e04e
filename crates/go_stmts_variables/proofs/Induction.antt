-- The induction over statements.
use Rattle.std.proofs.Common.{◌≡◌, ◌∙◌, ℕ, Bool, true, false, List, [], ◌∷◌, Some, refl, sym, ap, IsTrue}
use Rattle.go_grammar.specs.declared.kind.Arithmetic.{Arithmetic}
use Rattle.go_grammar.specs.declared.kind.Category.{Category}
use Rattle.go_grammar.specs.declared.kind.Category.TheVariants as category
use Rattle.go_grammar.specs.declared.kind.Kind.{Kind}
use Rattle.go_grammar.specs.declared.kind.Kind.TheVariants as kind
use Rattle.go_grammar.specs.declared.kind.Place.{Place}
use Rattle.go_grammar.specs.declared.kind.Step.{Step}
use Rattle.go_grammar.specs.declared.kind.Place.TheVariants as place
use Rattle.go_grammar.specs.declared.kind.Sort.TheVariants as declaring
use Rattle.go_grammar.specs.Categories.{place_of, within, is_post, is_simple, is_statement}
use Rattle.go_grammar.specs.Grammar.{any, rule, agrees}
use Rattle.go_grammar.specs.Rules.{End, Maybe, Many, Lines, Open, Each}
use Rattle.go_grammar.specs.Trees.{Tree, node, Trees, none, more, skip}
use Rattle.go_tokens.specs.declared.token.TokenKind.{TokenKind}
use Rattle.go_tokens.specs.declared.token.TokenKind.TheVariants as token
use Rattle.go_exprs_variables.specs.Shapes.{IsShaped, AreShaped}
use Rattle.go_exprs_variables.specs.Variables.{Standins, AllFree, Proper, AllProper, ExpressionsTyped}
use Rattle.go_typed.specs.declared.form.Form.TheVariants as form
use Rattle.go_exprs_rules.specs.Scopes.{value}
use Rattle.go_stmts_defs.specs.Frames.{Frame}
use Rattle.go_stmts_defs.specs.Laying.{header_parts, loop_header, loop_form}
use Rattle.go_stmts_defs.specs.Reading.{reading}
use Rattle.go_stmts_variables.specs.Statements.{tree_in, Declares, AllDeclare}
use Rattle.go_stmts_variables.proofs.SimpleTrees.{impossible, uncovered, names_shape, define_stated, assign_stated}
use Rattle.go_stmts_variables.proofs.Steps.{step_reads}
use Rattle.go_stmts_variables.proofs.Switches.{tag_part, plain_tag, switch_reads, bare_switch}
use Rattle.go_stmts_variables.proofs.Branches.{condition_roles, second, Elses, no_else, an_else, if_reads}
use Rattle.go_stmts_variables.proofs.Calls.{expression_reads}
use Rattle.go_stmts_variables.proofs.Clauses.{Clause, AllClauses, case_reads, default_clause}
use Rattle.go_stmts_variables.proofs.DeclarationTrees.{variables_stated}
use Rattle.go_stmts_variables.proofs.FixedTrees.{types_stated, constants_stated}
use Rattle.go_stmts_variables.proofs.Headers.{Header, reading_unheld, value_header, late_condition, initialized_condition, late_tag, initialized_tag, for_clause, initialized_for_clause, value_alone, loop_alone, whole_header, late_header}
use Rattle.go_stmts_variables.proofs.Loops.{loop_roles, value_form, for_reads, forever_reads}
use Rattle.go_stmts_variables.proofs.Roles.{Role, a_statement, a_value, AreRoles, holder_is}
use Rattle.go_stmts_variables.proofs.Lists.{list_expressions}
use Rattle.go_stmts_variables.proofs.Operates.{operate_reads}
use Rattle.go_stmts_variables.proofs.RangeHeads.{range_alone, range_assigning}
use Rattle.go_stmts_variables.proofs.RangeLoops.{RangeHead, range_reads}
use Rattle.go_stmts_variables.proofs.RangeNames.{range_defining}
use Rattle.go_stmts_variables.proofs.Returns.{list_returned, bare_returned}
use Rattle.go_stmts_variables.proofs.Rows.{Stated, AllStated, block_reads, break_reads, continue_reads, fallthrough_reads}

-- ---- the categories of statements

abbrev pub states : Category → Bool
states category.Statement = true
states category.Simple = true
states category.Post = true
states category.Block = true
states category.Branch = true
states c = false

simple_statement : (k : Kind) → is_simple k ≡ true → is_statement k ≡ true
simple_statement kind.ExpressionStatement e = refl
simple_statement (kind.StepStatement s) e = refl
simple_statement kind.Assignment e = refl
simple_statement (kind.OperatorAssignment o) e = refl
simple_statement kind.Define e = refl
simple_statement k e = uncovered e

post_statement : (k : Kind) → is_post k ≡ true → is_statement k ≡ true
post_statement kind.ExpressionStatement e = refl
post_statement (kind.StepStatement s) e = refl
post_statement kind.Assignment e = refl
post_statement (kind.OperatorAssignment o) e = refl
post_statement k e = uncovered e

block_statement : (k : Kind) → within category.Block k ≡ true → is_statement k ≡ true
block_statement kind.Block e = refl
block_statement k e = uncovered e

branch_statement : (k : Kind) → within category.Branch k ≡ true → is_statement k ≡ true
branch_statement kind.If e = refl
branch_statement kind.Block e = refl
branch_statement k e = uncovered e

within_statements : (c : Category) (k : Kind) → states c ≡ true → IsTrue (within c k) → is_statement k ≡ true
within_statements category.Statement k s e = e
within_statements category.Simple k s e = simple_statement k e
within_statements category.Post k s e = post_statement k e
within_statements category.Block k s e = block_statement k e
within_statements category.Branch k s e = branch_statement k e
within_statements c k s e = uncovered s

abbrev AreStatements : Trees → Type 0
AreStatements none = Unit {0}
AreStatements (more p ps) = IsShaped category.Statement p × AreStatements ps
AreStatements (skip ps) = ⊥

many_statements : (ws : List TokenKind) (b : Bool) (u v : TokenKind) (ps : Trees) → AreShaped (Many ws (Lines b category.Statement u v)) ps → AreStatements ps
many_statements ws b u v none e = tt
many_statements ws b u v (more p ps) e = (e.0, many_statements ws b u v ps e.1)
many_statements ws b u v (skip ps) e = elim e [ ]

open_statements : (ws : List TokenKind) (u : TokenKind) (ps : Trees) → AreShaped (Many ws (Open category.Statement u)) ps → AreStatements ps
open_statements ws u none e = tt
open_statements ws u (more p ps) e = (e.0, open_statements ws u ps e.1)
open_statements ws u (skip ps) e = elim e [ ]

abbrev AreClauses : Trees → Type 0
AreClauses none = Unit {0}
AreClauses (more p ps) = IsShaped category.Clause p × AreClauses ps
AreClauses (skip ps) = ⊥

many_clauses : (ws us vs : List TokenKind) (ps : Trees) → AreShaped (Many ws (Each category.Clause us vs)) ps → AreClauses ps
many_clauses ws us vs none e = tt
many_clauses ws us vs (more p ps) e = (e.0, many_clauses ws us vs ps e.1)
many_clauses ws us vs (skip ps) e = elim e [ ]

block_shape : (p : Place) (ps : Trees) → AreShaped (rule p kind.Block) ps → AreStatements ps
block_shape p ps e = many_statements (token.LeftBrace ∷ []) true token.Semicolon token.RightBrace ps e

module _ (w : Standins) where
  module _ (law : ExpressionsTyped) where
    return_stated : (p : Place) (i j : ℕ) (ps : Trees) → AreShaped (rule p kind.Return) ps → AllProper w ps → Stated w (node kind.Return i j ps)
    return_stated p i j none e proper = elim e [ ]
    return_stated p i j (skip none) e proper = record { kind = refl; reads = λ f g h st good fits tags steady. bare_returned w f g h i j st good }
    return_stated p i j (skip (more q ps)) e proper = elim e [ ]
    return_stated p i j (skip (skip ps)) e proper = elim e [ ]
    return_stated p i j (more (node kind.ExpressionList a b ps) none) e proper = record { kind = refl; reads = λ f g h st good fits tags steady. list_returned w f g h i j a b p ps (list_expressions p ps e.0.1) st law proper.0.2 good fits }
    return_stated p i j (more (node k a b ps) none) e proper = impossible e.0.0
    return_stated p i j (more q (more r ps)) e proper = elim e.1 [ ]
    return_stated p i j (more q (skip ps)) e proper = elim e.1 [ ]

    step_stated : (o : Step) (p : Place) (i j : ℕ) (ps : Trees) → AreShaped (rule p (kind.StepStatement o)) ps → AllProper w ps → Stated w (node (kind.StepStatement o) i j ps)
    step_stated o p i j none e proper = elim e [ ]
    step_stated o p i j (skip ps) e proper = elim e [ ]
    step_stated o p i j (more x (more y ps)) e proper = elim e.1 [ ]
    step_stated o p i j (more x (skip ps)) e proper = elim e.1 [ ]
    step_stated o p i j (more x none) e proper = record { kind = refl; reads = λ f g h st good fits tags steady. step_reads w f g h o i j p x e.0 st law proper.0 good fits }

    operate_stated : (o : Arithmetic) (p : Place) (i j : ℕ) (ps : Trees) → AreShaped (rule p (kind.OperatorAssignment o)) ps → AllProper w ps → Stated w (node (kind.OperatorAssignment o) i j ps)
    operate_stated o p i j none e proper = elim e [ ]
    operate_stated o p i j (skip ps) e proper = elim e [ ]
    operate_stated o p i j (more x none) e proper = elim e.1 [ ]
    operate_stated o p i j (more x (skip ps)) e proper = elim e.1 [ ]
    operate_stated o p i j (more x (more y (more z ps))) e proper = elim e.1.1 [ ]
    operate_stated o p i j (more x (more y (skip ps))) e proper = elim e.1.1 [ ]
    operate_stated o p i j (more x (more y none)) e proper = record { kind = refl; reads = λ f g h st good fits tags steady. operate_reads w f g h o i j p x y e.0 e.1.0 st law proper.0 proper.1.0 good fits }

    expression_stated : (p : Place) (i j : ℕ) (ps : Trees) → AreShaped (rule p kind.ExpressionStatement) ps → AllProper w ps → Stated w (node kind.ExpressionStatement i j ps)
    expression_stated p i j none e proper = elim e [ ]
    expression_stated p i j (skip ps) e proper = elim e [ ]
    expression_stated p i j (more x (more y ps)) e proper = elim e.1 [ ]
    expression_stated p i j (more x (skip ps)) e proper = elim e.1 [ ]
    expression_stated p i j (more x none) e proper = record { kind = refl; reads = λ f g h st good fits tags steady. expression_reads w f g h i j p x e.0 st law proper.0 good fits }

    -- ---- headers

    -- the statements of a header, which are no larger than the header
    abbrev FirstStated : Trees → Type 0
    FirstStated (more x ps) = Stated w x
    FirstStated ps = Unit {0}

    abbrev EachStated : Trees → Type 0
    EachStated (more x ps) = Stated w x × Unit {0}
    EachStated ps = Unit {0}

    abbrev ClauseStated : Trees → Type 0
    ClauseStated (more x ps) = EachStated ps
    ClauseStated (skip ps) = EachStated ps
    ClauseStated none = Unit {0}

    abbrev WholeStated : Trees → Type 0
    WholeStated (more x ps) = Stated w x × ClauseStated ps
    WholeStated ps = Unit {0}

    abbrev HeaderStated : Tree → Type 0
    HeaderStated (node kind.InitializedCondition i j ps) = FirstStated ps
    HeaderStated (node kind.InitializedTag i j ps) = FirstStated ps
    HeaderStated (node kind.InitializedForClause i j ps) = WholeStated ps
    HeaderStated (node kind.ForClause i j ps) = ClauseStated ps
    HeaderStated x = Unit {0}

    one_value : (p : Place) (rs : List Role) (x : Tree) (ps : Trees) → IsShaped (any p) x → Proper w x → AreRoles w rs ps → AreRoles w (a_value ∷ rs) (more x ps)
    one_value p rs x ps shape proper e = ((p, shape, proper), e)

    late_if : (f : Frame) (i j : ℕ) (ps : Trees) → AreShaped (rule place.Header kind.LateCondition) ps → AllProper w ps → Header w header_parts condition_roles f (node kind.LateCondition i j ps)
    late_if f i j none e proper = elim e [ ]
    late_if f i j (skip ps) e proper = elim e [ ]
    late_if f i j (more x (more y ps)) e proper = elim e.1 [ ]
    late_if f i j (more x (skip ps)) e proper = elim e.1 [ ]
    late_if f i j (more x none) e proper = late_header w law header_parts (a_value ∷ []) f kind.LateCondition i j (more x none) (late_condition w) (one_value place.Header [] x none e.0 proper.0 tt) refl

    initialized_if : (f : Frame) (i j : ℕ) (ps : Trees) → AreShaped (rule place.Header kind.InitializedCondition) ps → AllProper w ps → FirstStated ps → Header w header_parts condition_roles f (node kind.InitializedCondition i j ps)
    initialized_if f i j none e proper s = elim e [ ]
    initialized_if f i j (skip ps) e proper s = elim e [ ]
    initialized_if f i j (more x none) e proper s = elim e.1 [ ]
    initialized_if f i j (more x (skip ps)) e proper s = elim e.1 [ ]
    initialized_if f i j (more x (more y (more z ps))) e proper s = elim e.1.1 [ ]
    initialized_if f i j (more x (more y (skip ps))) e proper s = elim e.1.1 [ ]
    initialized_if f i j (more x (more y none)) e proper s =
        whole_header w law header_parts condition_roles f kind.InitializedCondition i j (more x (more y none)) (initialized_condition w) (s, one_value place.Header [] y none e.1.0 proper.1.0 tt) refl

    if_header : (f : Frame) (x : Tree) → IsShaped category.IfHeader x → Proper w x → HeaderStated x → Header w header_parts condition_roles f x
    if_header f (node kind.LateCondition i j ps) e proper s = late_if f i j ps e.1 proper.2
    if_header f (node kind.InitializedCondition i j ps) e proper s = initialized_if f i j ps e.1 proper.2 s
    if_header f (node k i j ps) e proper s = value_alone w law f place.Header (node k i j ps) (e.0, e.1, e.2) proper

    -- ---- switches

    record SwitchHead (f : Frame) (x : Tree) : Type 0 where
      pub header : Header w header_parts condition_roles f x
      pub same : tag_part w (Some (tree_in (reading f value x))) ≡ second (header_parts (Some (tree_in (reading f value x))))

    lone_tag : (f : Frame) (x : Tree) → IsShaped (any place.Header) x → Proper w x → SwitchHead f x
    lone_tag f x shape proper =
        let unheld = reading_unheld w f place.Header x shape in
        record { header = value_alone w law f place.Header x shape proper; same = plain_tag w (tree_in (reading f value x)) unheld ∙ sym (ap second (value_header w (tree_in (reading f value x)) unheld)) }

    late_switch : (f : Frame) (i j : ℕ) (ps : Trees) → AreShaped (rule place.Header kind.LateTag) ps → AllProper w ps → SwitchHead f (node kind.LateTag i j ps)
    late_switch f i j none e proper = elim e [ ]
    late_switch f i j (skip (more y ps)) e proper = elim e [ ]
    late_switch f i j (skip (skip ps)) e proper = elim e [ ]
    late_switch f i j (more x (more y ps)) e proper = elim e.1 [ ]
    late_switch f i j (more x (skip ps)) e proper = elim e.1 [ ]
    late_switch f i j (skip none) e proper =
        let is = holder_is w f f value kind.LateTag i j (skip none) (late_tag w) in
        record {
          header = late_header w law header_parts (a_value ∷ []) f kind.LateTag i j (skip none) (late_tag w) tt refl;
          same = ap (λ z. tag_part w (Some z)) is ∙ sym (ap (λ z. second (header_parts (Some z))) is);
        }
    late_switch f i j (more x none) e proper =
        let is = holder_is w f f value kind.LateTag i j (more x none) (late_tag w) in
        record {
          header = late_header w law header_parts (a_value ∷ []) f kind.LateTag i j (more x none) (late_tag w) (one_value place.Header [] x none e.0 proper.0 tt) refl;
          same = ap (λ z. tag_part w (Some z)) is ∙ sym (ap (λ z. second (header_parts (Some z))) is);
        }

    initialized_switch : (f : Frame) (i j : ℕ) (ps : Trees) → AreShaped (rule place.Header kind.InitializedTag) ps → AllProper w ps → FirstStated ps → SwitchHead f (node kind.InitializedTag i j ps)
    initialized_switch f i j none e proper s = elim e [ ]
    initialized_switch f i j (skip ps) e proper s = elim e [ ]
    initialized_switch f i j (more x none) e proper s = elim e.1 [ ]
    initialized_switch f i j (more x (skip (more y ps))) e proper s = elim e.1 [ ]
    initialized_switch f i j (more x (skip (skip ps))) e proper s = elim e.1 [ ]
    initialized_switch f i j (more x (more y (more z ps))) e proper s = elim e.1.1 [ ]
    initialized_switch f i j (more x (more y (skip ps))) e proper s = elim e.1.1 [ ]
    initialized_switch f i j (more x (skip none)) e proper s =
        let is = holder_is w f f value kind.InitializedTag i j (more x (skip none)) (initialized_tag w) in
        record {
          header = whole_header w law header_parts condition_roles f kind.InitializedTag i j (more x (skip none)) (initialized_tag w) (s, tt) refl;
          same = ap (λ z. tag_part w (Some z)) is ∙ sym (ap (λ z. second (header_parts (Some z))) is);
        }
    initialized_switch f i j (more x (more y none)) e proper s =
        let is = holder_is w f f value kind.InitializedTag i j (more x (more y none)) (initialized_tag w) in
        record {
          header = whole_header w law header_parts condition_roles f kind.InitializedTag i j (more x (more y none)) (initialized_tag w) (s, one_value place.Header [] y none e.1.0 proper.1.0 tt) refl;
          same = ap (λ z. tag_part w (Some z)) is ∙ sym (ap (λ z. second (header_parts (Some z))) is);
        }

    switch_head : (f : Frame) (x : Tree) → IsShaped category.SwitchHeader x → Proper w x → HeaderStated x → SwitchHead f x
    switch_head f (node kind.LateTag i j ps) e proper s = late_switch f i j ps e.1 proper.2
    switch_head f (node kind.InitializedTag i j ps) e proper s = initialized_switch f i j ps e.1 proper.2 s
    switch_head f (node k i j ps) e proper s = lone_tag f (node k i j ps) (e.0, e.1, e.2) proper

    case_clause : (i j : ℕ) (l : Tree) (ss : Trees) → IsShaped (category.ExpressionList place.Free) l → Proper w l → AllStated w ss → Clause w (node kind.Case i j (more l ss))
    case_clause i j (node kind.ExpressionList a b vs) ss e proper s = record {
      kind = refl;
      reads = λ f g h t m keeps st good fits tags steady. case_reads w f g h i j a b place.Free vs ss (list_expressions place.Free vs e.1) s st t m keeps law proper.2 good fits tags steady;
    }
    case_clause i j (node k a b vs) ss e proper s = impossible e.0

    -- ---- loops

    post_roles : (ps : Trees) → AreShaped (Maybe (token.Semicolon ∷ []) category.Post (End [])) ps → EachStated ps → AreRoles w (a_statement ∷ []) ps
    post_roles none e s = elim e [ ]
    post_roles (skip none) e s = tt
    post_roles (skip (more q ps)) e s = elim e [ ]
    post_roles (skip (skip ps)) e s = elim e [ ]
    post_roles (more x none) e s = (s.0, tt)
    post_roles (more x (more y ps)) e s = elim e.1 [ ]
    post_roles (more x (skip ps)) e s = elim e.1 [ ]

    clause_roles : (ps : Trees) → AreShaped (rule place.Header kind.ForClause) ps → AllProper w ps → ClauseStated ps → AreRoles w (a_value ∷ a_statement ∷ []) ps
    clause_roles none e proper s = elim e [ ]
    clause_roles (skip ps) e proper s = post_roles ps e s
    clause_roles (more x ps) e proper s = one_value place.Header (a_statement ∷ []) x ps e.0 proper.0 (post_roles ps e.1 s)

    whole_roles : (ps : Trees) → AreShaped (rule place.Header kind.InitializedForClause) ps → AllProper w ps → WholeStated ps → AreRoles w loop_roles ps
    whole_roles none e proper s = elim e [ ]
    whole_roles (skip ps) e proper s = elim e [ ]
    whole_roles (more x ps) e proper s = (s.0, clause_roles ps e.1 proper.1 s.1)

    record LoopHead (f : Frame) (x : Tree) : Type 0 where
      pub header : Header w loop_header loop_roles f x
      pub clause : loop_form (Some (tree_in (reading f value x))) ≡ form.For

    lone_header : (f : Frame) (x : Tree) → IsShaped (any place.Header) x → Proper w x → LoopHead f x
    lone_header f x shape proper = record { header = loop_alone w law f place.Header x shape proper; clause = value_form w (tree_in (reading f value x)) (reading_unheld w f place.Header x shape) }

    plain_loop : (i j : ℕ) (hd b : Tree) → ((f : Frame) → LoopHead f hd) → Stated w b → Stated w (node kind.For i j (more hd (more b none)))
    plain_loop i j hd b head sb = record {
      kind = refl;
      reads = λ f g h st good fits tags steady. for_reads w law f g h i j hd b (head f).header (head f).clause sb st good fits tags steady;
    }

    -- loops that go over a value
    value_loop : (i j : ℕ) (hd b : Tree) → ((f : Frame) → RangeHead w f hd) → Stated w b → Stated w (node kind.For i j (more hd (more b none)))
    value_loop i j hd b head sb = record { kind = refl; reads = λ f g h st good fits tags steady. range_reads w f g h i j hd b (head f) sb st good fits tags steady }

    range_head : (f : Frame) (a c : ℕ) (ps : Trees) → AreShaped (rule place.Header kind.Range) ps → AllProper w ps → RangeHead w f (node kind.Range a c ps)
    range_head f a c none e proper = elim e [ ]
    range_head f a c (skip ps) e proper = elim e [ ]
    range_head f a c (more q (more r ps)) e proper = elim e.1 [ ]
    range_head f a c (more q (skip ps)) e proper = elim e.1 [ ]
    range_head f a c (more q none) e proper = range_alone w f a c place.Header q e.0 law proper.0

    assigning_head : (f : Frame) (a c d m : ℕ) (ts : Trees) (q : Tree) → AreShaped (rule place.Header kind.Targets) ts → AllProper w ts → IsShaped (any place.Header) q → Proper w q
        → RangeHead w f (node kind.AssigningRange a c (more (node kind.Targets d m ts) (more q none)))
    assigning_head f a c d m none q e pt s px = elim e [ ]
    assigning_head f a c d m (skip ts) q e pt s px = elim e [ ]
    assigning_head f a c d m (more t (more u ts)) q e pt s px = elim e.1 [ ]
    assigning_head f a c d m (more t (skip ts)) q e pt s px = elim e.1 [ ]
    assigning_head f a c d m (more (node kind.ExpressionList n o qs) none) q e pt s px = range_assigning w f a c d m n o place.Header place.Header qs q (list_expressions place.Header qs e.0.1) s law pt.0.2 px
    assigning_head f a c d m (more (node k n o qs) none) q e pt s px = impossible e.0.0

    assigning_tree : (f : Frame) (a c : ℕ) (ps : Trees) → AreShaped (rule place.Header kind.AssigningRange) ps → AllProper w ps → RangeHead w f (node kind.AssigningRange a c ps)
    assigning_tree f a c none e proper = elim e [ ]
    assigning_tree f a c (skip ps) e proper = elim e [ ]
    assigning_tree f a c (more t none) e proper = elim e.1 [ ]
    assigning_tree f a c (more t (skip ps)) e proper = elim e.1 [ ]
    assigning_tree f a c (more t (more q (more r ps))) e proper = elim e.1.1 [ ]
    assigning_tree f a c (more t (more q (skip ps))) e proper = elim e.1.1 [ ]
    assigning_tree f a c (more (node kind.Targets d m ts) (more q none)) e proper = assigning_head f a c d m ts q e.0.1 proper.0.2 e.1.0 proper.1.0
    assigning_tree f a c (more (node k d m ts) (more q none)) e proper = impossible e.0.0

    defining_head : (f : Frame) (a c d m : ℕ) (ts : Trees) (q : Tree) → AreShaped (rule place.Header kind.NewNames) ts → IsTrue (agrees kind.NewNames ts) → AllFree w ts → IsShaped (any place.Header) q → Proper w q
        → RangeHead w f (node kind.DefiningRange a c (more (node kind.NewNames d m ts) (more q none)))
    defining_head f a c d m none q e n free s px = elim e [ ]
    defining_head f a c d m (skip ts) q e n free s px = elim e [ ]
    defining_head f a c d m (more t (more u ts)) q e n free s px = elim e.1 [ ]
    defining_head f a c d m (more t (skip ts)) q e n free s px = elim e.1 [ ]
    defining_head f a c d m (more (node kind.ExpressionList y o qs) none) q e n free s px =
        range_defining w f a c d m y o place.Header qs q (names_shape w place.Header qs (list_expressions place.Header qs e.0.1) n) free.0.1 s law px
    defining_head f a c d m (more (node k y o qs) none) q e n free s px = impossible e.0.0

    defining_tree : (f : Frame) (a c : ℕ) (ps : Trees) → AreShaped (rule place.Header kind.DefiningRange) ps → AllProper w ps → AllDeclare w ps → RangeHead w f (node kind.DefiningRange a c ps)
    defining_tree f a c none e proper dec = elim e [ ]
    defining_tree f a c (skip ps) e proper dec = elim e [ ]
    defining_tree f a c (more t none) e proper dec = elim e.1 [ ]
    defining_tree f a c (more t (skip ps)) e proper dec = elim e.1 [ ]
    defining_tree f a c (more t (more q (more r ps))) e proper dec = elim e.1.1 [ ]
    defining_tree f a c (more t (more q (skip ps))) e proper dec = elim e.1.1 [ ]
    defining_tree f a c (more (node kind.NewNames d m ts) (more q none)) e proper dec = defining_head f a c d m ts q e.0.1 e.0.2 dec.0.0 e.1.0 proper.1.0
    defining_tree f a c (more (node k d m ts) (more q none)) e proper dec = impossible e.0.0

    loop_stated : (i j : ℕ) (hd b : Tree) → IsShaped category.ForHeader hd → Proper w hd → Declares w hd → HeaderStated hd → Stated w b → Stated w (node kind.For i j (more hd (more b none)))
    loop_stated i j (node kind.ForClause a c ps) b e proper dec s sb =
        plain_loop i j (node kind.ForClause a c ps) b
        (λ f. record {
          header = late_header w law loop_header (a_value ∷ a_statement ∷ []) f kind.ForClause a c ps (for_clause w) (clause_roles ps e.1 proper.2 s) refl;
          clause = ap (λ x. loop_form (Some x)) (holder_is w f f value kind.ForClause a c ps (for_clause w));
        }) sb
    loop_stated i j (node kind.InitializedForClause a c ps) b e proper dec s sb =
        plain_loop i j (node kind.InitializedForClause a c ps) b
        (λ f. record {
          header = whole_header w law loop_header loop_roles f kind.InitializedForClause a c ps (initialized_for_clause w) (whole_roles ps e.1 proper.2 s) refl;
          clause = ap (λ x. loop_form (Some x)) (holder_is w f f value kind.InitializedForClause a c ps (initialized_for_clause w));
        }) sb
    loop_stated i j (node kind.Range a c ps) b e proper dec s sb = value_loop i j (node kind.Range a c ps) b (λ f. range_head f a c ps e.1 proper.2) sb
    loop_stated i j (node kind.AssigningRange a c ps) b e proper dec s sb = value_loop i j (node kind.AssigningRange a c ps) b (λ f. assigning_tree f a c ps e.1 proper.2) sb
    loop_stated i j (node kind.DefiningRange a c ps) b e proper dec s sb = value_loop i j (node kind.DefiningRange a c ps) b (λ f. defining_tree f a c ps e.1 proper.2 dec.1) sb
    loop_stated i j (node k a c ps) b e proper dec s sb = plain_loop i j (node k a c ps) b (λ f. lone_header f (node k a c ps) (e.0, e.1, e.2) proper) sb

    mutual
      pub statement_stated : (c : Category) (x : Tree) → IsShaped c x → Proper w x → Declares w x → states c ≡ true → Stated w x
      statement_stated c (node kind.Return i j ps) e proper dec v = return_stated (place_of c) i j ps e.1 proper.2
      statement_stated c (node kind.Define i j ps) e proper dec v = define_stated w law (place_of c) i j ps e.1 proper.2 dec.1
      statement_stated c (node kind.Assignment i j ps) e proper dec v = assign_stated w law (place_of c) i j ps e.1 proper.2
      statement_stated c (node (kind.StepStatement o) i j ps) e proper dec v = step_stated o (place_of c) i j ps e.1 proper.2
      statement_stated c (node (kind.OperatorAssignment o) i j ps) e proper dec v = operate_stated o (place_of c) i j ps e.1 proper.2
      statement_stated c (node (kind.Declaration declaring.Variable) i j ps) e proper dec v = variables_stated w law i j ps e.1 proper.2 dec.1
      statement_stated c (node (kind.Declaration declaring.Constant) i j ps) e proper dec v = constants_stated w law i j ps e.1 dec.0 dec.1
      statement_stated c (node (kind.Declaration declaring.Type) i j ps) e proper dec v = types_stated w i j ps e.1 dec.0 dec.1
      statement_stated c (node kind.ExpressionStatement i j ps) e proper dec v = expression_stated (place_of c) i j ps e.1 proper.2
      statement_stated c (node kind.Block i j ps) e proper dec v = record { kind = refl; reads = λ f g h st good fits tags steady. block_reads w f g h i j ps (all_stated ps (block_shape (place_of c) ps e.1) proper.2 dec.1) st good fits tags steady }
      statement_stated c (node kind.Break i j none) e proper dec v = record { kind = refl; reads = λ f g h st good fits tags steady. break_reads w f g h i j st }
      statement_stated c (node kind.Continue i j none) e proper dec v = record { kind = refl; reads = λ f g h st good fits tags steady. continue_reads w f g h i j st }
      statement_stated c (node kind.Fallthrough i j none) e proper dec v = record { kind = refl; reads = λ f g h st good fits tags steady. fallthrough_reads w f g h i j st }
      statement_stated c (node kind.Break i j (more p ps)) e proper dec v = elim e.1 [ ]
      statement_stated c (node kind.Break i j (skip ps)) e proper dec v = elim e.1 [ ]
      statement_stated c (node kind.Continue i j (more p ps)) e proper dec v = elim e.1 [ ]
      statement_stated c (node kind.Continue i j (skip ps)) e proper dec v = elim e.1 [ ]
      statement_stated c (node kind.Fallthrough i j (more p ps)) e proper dec v = elim e.1 [ ]
      statement_stated c (node kind.Fallthrough i j (skip ps)) e proper dec v = elim e.1 [ ]
      statement_stated c (node kind.If i j none) e proper dec v = elim e.1 [ ]
      statement_stated c (node kind.If i j (skip ps)) e proper dec v = elim e.1 [ ]
      statement_stated c (node kind.If i j (more hd none)) e proper dec v = elim e.1.1 [ ]
      statement_stated c (node kind.If i j (more hd (skip ps))) e proper dec v = elim e.1.1 [ ]
      statement_stated c (node kind.If i j (more hd (more b es))) e proper dec v =
          let hs = header_stated category.IfHeader hd e.1.0 proper.2.0 dec.1.0 in
          let sb = statement_stated category.Block b e.1.1.0 proper.2.1.0 dec.1.1.0 refl in
          let el = else_stated es e.1.1.1 proper.2.1.1 dec.1.1.1 in
          record { kind = refl; reads = λ f g h st good fits tags steady. if_reads w law f g h i j hd b es (if_header f hd e.1.0 proper.2.0 hs) sb el st good fits tags steady }
      statement_stated c (node kind.Switch i j none) e proper dec v = elim e.1 [ ]
      statement_stated c (node kind.Switch i j (skip cs)) e proper dec v =
          let s = clauses_stated cs (many_clauses (token.LeftBrace ∷ []) [] (token.RightBrace ∷ []) cs e.1) proper.2 dec.1 in
          record { kind = refl; reads = λ f g h st good fits tags steady. bare_switch w f g h i j cs s st good fits tags steady }
      statement_stated c (node kind.Switch i j (more hd cs)) e proper dec v =
          let hs = header_stated category.SwitchHeader hd e.1.0 proper.2.0 dec.1.0 in
          let s = clauses_stated cs (many_clauses (token.LeftBrace ∷ []) [] (token.RightBrace ∷ []) cs e.1.1) proper.2.1 dec.1.1 in
          record {
            kind = refl;
            reads = λ f g h st good fits tags steady.
                let head = switch_head f hd e.1.0 proper.2.0 hs in
                switch_reads w f g h i j hd cs head.header head.same s st law good fits tags steady;
          }
      statement_stated c (node kind.For i j none) e proper dec v = elim e.1 [ ]
      statement_stated c (node kind.For i j (skip none)) e proper dec v = elim e.1 [ ]
      statement_stated c (node kind.For i j (skip (skip ps))) e proper dec v = elim e.1 [ ]
      statement_stated c (node kind.For i j (skip (more b (more x ps)))) e proper dec v = elim e.1.1 [ ]
      statement_stated c (node kind.For i j (skip (more b (skip ps)))) e proper dec v = elim e.1.1 [ ]
      statement_stated c (node kind.For i j (skip (more b none))) e proper dec v =
          let sb = statement_stated category.Block b e.1.0 proper.2.0 dec.1.0 refl in
          record { kind = refl; reads = λ f g h st good fits tags steady. forever_reads w law f g h i j b sb st good fits tags steady }
      statement_stated c (node kind.For i j (more hd none)) e proper dec v = elim e.1.1 [ ]
      statement_stated c (node kind.For i j (more hd (skip ps))) e proper dec v = elim e.1.1 [ ]
      statement_stated c (node kind.For i j (more hd (more b (more x ps)))) e proper dec v = elim e.1.1.1 [ ]
      statement_stated c (node kind.For i j (more hd (more b (skip ps)))) e proper dec v = elim e.1.1.1 [ ]
      statement_stated c (node kind.For i j (more hd (more b none))) e proper dec v =
          let hs = header_stated category.ForHeader hd e.1.0 proper.2.0 dec.1.0 in
          loop_stated i j hd b e.1.0 proper.2.0 dec.1.0 hs (statement_stated category.Block b e.1.1.0 proper.2.1.0 dec.1.1.0 refl)
      statement_stated c (node k i j ps) e proper dec v = uncovered (within_statements c k v e.0)

      all_stated : (ps : Trees) → AreStatements ps → AllProper w ps → AllDeclare w ps → AllStated w ps
      all_stated none e proper dec = tt
      all_stated (skip ps) e proper dec = elim e [ ]
      all_stated (more p ps) e proper dec = (statement_stated category.Statement p e.0 proper.0 dec.0 refl, all_stated ps e.1 proper.1 dec.1)

      else_stated : (es : Trees) → AreShaped (Maybe [] category.Else (End [])) es → AllProper w es → AllDeclare w es → Elses w es
      else_stated none e proper dec = elim e [ ]
      else_stated (skip none) e proper dec = no_else
      else_stated (skip (more x es)) e proper dec = elim e [ ]
      else_stated (skip (skip es)) e proper dec = elim e [ ]
      else_stated (more x (more y es)) e proper dec = elim e.1 [ ]
      else_stated (more x (skip es)) e proper dec = elim e.1 [ ]
      else_stated (more (node kind.Else i j none) none) e proper dec = elim e.0.1 [ ]
      else_stated (more (node kind.Else i j (skip ps)) none) e proper dec = elim e.0.1 [ ]
      else_stated (more (node kind.Else i j (more b (more x ps))) none) e proper dec = elim e.0.1.1 [ ]
      else_stated (more (node kind.Else i j (more b (skip ps))) none) e proper dec = elim e.0.1.1 [ ]
      else_stated (more (node kind.Else i j (more b none)) none) e proper dec = an_else i j b (statement_stated category.Branch b e.0.1.0 proper.0.2.0 dec.0.1.0 refl)
      else_stated (more (node k i j ps) none) e proper dec = impossible e.0.0

      clauses_stated : (cs : Trees) → AreClauses cs → AllProper w cs → AllDeclare w cs → AllClauses w cs
      clauses_stated none e proper dec = tt
      clauses_stated (skip cs) e proper dec = elim e [ ]
      clauses_stated (more (node kind.Case i j none) cs) e proper dec = elim e.0.1 [ ]
      clauses_stated (more (node kind.Case i j (skip ss)) cs) e proper dec = elim e.0.1 [ ]
      clauses_stated (more (node kind.Case i j (more l ss)) cs) e proper dec =
          let ss' = all_stated ss (open_statements (token.Colon ∷ []) token.Semicolon ss e.0.1.1) proper.0.2.1 dec.0.1.1 in (case_clause i j l ss e.0.1.0 proper.0.2.0 ss', clauses_stated cs e.1 proper.1 dec.1)
      clauses_stated (more (node kind.Default i j ss) cs) e proper dec =
          (default_clause w i j ss (all_stated ss (open_statements (token.Default ∷ token.Colon ∷ []) token.Semicolon ss e.0.1) proper.0.2 dec.0.1), clauses_stated cs e.1 proper.1 dec.1)
      clauses_stated (more (node k i j ps) cs) e proper dec = impossible e.0.0

      -- the statements of a header
      header_stated : (c : Category) (x : Tree) → IsShaped c x → Proper w x → Declares w x → HeaderStated x
      header_stated c (node kind.InitializedCondition i j none) e proper dec = elim e.1 [ ]
      header_stated c (node kind.InitializedCondition i j (skip ps)) e proper dec = elim e.1 [ ]
      header_stated c (node kind.InitializedCondition i j (more x ps)) e proper dec = statement_stated category.Simple x e.1.0 proper.2.0 dec.1.0 refl
      header_stated c (node kind.InitializedTag i j none) e proper dec = elim e.1 [ ]
      header_stated c (node kind.InitializedTag i j (skip ps)) e proper dec = elim e.1 [ ]
      header_stated c (node kind.InitializedTag i j (more x ps)) e proper dec = statement_stated category.Simple x e.1.0 proper.2.0 dec.1.0 refl
      header_stated c (node kind.InitializedForClause i j none) e proper dec = elim e.1 [ ]
      header_stated c (node kind.InitializedForClause i j (skip ps)) e proper dec = elim e.1 [ ]
      header_stated c (node kind.InitializedForClause i j (more x ps)) e proper dec =
          (statement_stated category.Simple x e.1.0 proper.2.0 dec.1.0 refl, clause_stated ps e.1.1 proper.2.1 dec.1.1)
      header_stated c (node kind.ForClause i j ps) e proper dec = clause_stated ps e.1 proper.2 dec.1
      header_stated c (node k i j ps) e proper dec = tt

      clause_stated : (ps : Trees) → AreShaped (Maybe (token.Semicolon ∷ []) (any place.Header) (Maybe (token.Semicolon ∷ []) category.Post (End []))) ps → AllProper w ps → AllDeclare w ps → ClauseStated ps
      clause_stated none e proper dec = elim e [ ]
      clause_stated (skip ps) e proper dec = post_stated ps e proper dec
      clause_stated (more x ps) e proper dec = post_stated ps e.1 proper.1 dec.1

      post_stated : (ps : Trees) → AreShaped (Maybe (token.Semicolon ∷ []) category.Post (End [])) ps → AllProper w ps → AllDeclare w ps → EachStated ps
      post_stated none e proper dec = elim e [ ]
      post_stated (skip ps) e proper dec = tt
      post_stated (more x ps) e proper dec = (statement_stated category.Post x e.0 proper.0 dec.0 refl, tt)
