-- A node and its image are kin where their parts are.
use Rattle.std.proofs.Common.{◌≡◌, ℕ, ◌+◌, ◌≤◌, refl, ap, ◌∙◌, subst, arith}
use Rattle.std.specs.Prelude.{Bool, true, false}
use Rattle.go_types.specs.Trees.{TypeTree}
use Rattle.go_typed.specs.declared.form.Form.{Form}
use Rattle.go_typed.specs.declared.form.Form.TheVariants as form
use Rattle.go_typed.specs.Trees.{Label, Typed, typed, Typeds}
use Rattle.go_typed.specs.Trees as trees
use Rattle.go_meaning.specs.Values.{Value}
use Rattle.go_meaning.specs.Plans.{Plan, Course, Give, Local, Declare, AssignTo, ZeroTo, Returns, Breaks, Continues, Falls, Sequence, Branch, Select, CaseOf, Otherwise, Iterate, Once}
use Rattle.go_meaning.specs.Plans as plans
use Rattle.go_meaning.specs.Planning.{plan}
use Rattle.go_meaning_simulation.specs.Links.{Links, Ways, loop_ways, clause_ways}
use Rattle.go_meaning_simulation.specs.Kin.{Expression, Statement, First, Part, Clauses, is_inner}
use Rattle.go_meaning_simulation.specs.Kin as kin
use Rattle.extract_runs.specs.Images.{Renewal, is_list, values_in, plan_moved}
use Rattle.extract_runs.specs.Sound.{SoundExpression, SoundSimple, SoundStatement, SoundFirst, SoundPart, SoundOther, SoundClause, SoundClauses, is_plain}
use Rattle.extract_runs.specs.Sound as sound
use Rattle.extract_runs.proofs.Plans.{one_plan, is_give, differ, inner_no_list, plain_no_list, inner_no_give, plain_no_give, inner_stays, plain_stays, no_for, no_loop}
use Rattle.extract_runs.proofs.Follows.{Agrees, Follow, Row, ListRow, none, more}
use Rattle.extract_runs.proofs.Rows as rows

module _ (l : Links) (r : Renewal) (k : ℕ) (g : Agrees l r k) where
  plain_leaf : (s : l.Scope) (b : Bool) (p : Plan) → is_plain p ≡ true → kin.Leaf l s b p p
  plain_leaf s b (plans.Variable n) e = kin.variable
  plain_leaf s b plans.Ignore e = kin.blank
  plain_leaf s b plans.Skip e = kin.nothing
  plain_leaf s b p e = absurd cc

  -- ---- a node that is no list

  module _ (n : ℕ) (f f' : Form) (i i' j j' : ℕ) (e e' : Label TypeTree) (ps ps' : Typeds TypeTree) (p : Plan) (single : is_list p ≡ false) (old : plan r.old f e ps ≡ Once p) (new : plan r.new f' e' ps' ≡ Once (plan_moved r.functions r.local p)) (row : Row l r k n ps ps') where
    told : {q : Plan} → plan r.old f e ps ≡ Once q → plan r.new f' e' ps' ≡ Once (plan_moved r.functions r.local q)
    told d = new ∙ ap (λ x. Once (plan_moved r.functions r.local x)) (one_plan old d)

    node_expr : (s : l.Scope) (b : Bool) → SoundExpression l r.old r.local r.gone s b (typed f i j e ps) → Expression l r.old r.new s b (typed f i j e ps) (typed f' i' j' e' ps')
    node_expr s b (sound.gives {v = v} d) = kin.leaf (Give v) (Give _) d (told d) (kin.gives (g.values v))
    node_expr s b (sound.reads {n = x} d a) = kin.leaf (Local x) (Local (r.local x)) d (told d) (kin.reads a)
    node_expr s b (sound.changes {n = x} d a w) = kin.leaf (Local x) (Local (r.local x)) d (told d) (kin.changes a w)
    node_expr s b (sound.plain q d is) = kin.leaf q q d (told d ∙ ap Once (plain_stays r.functions r.local q is)) (plain_leaf s b q is)
    node_expr s b (sound.inner q d is es) = kin.inner q d (told d ∙ ap Once (inner_stays r.functions r.local q is)) is (rows.expressions l r k g s (kin.modes q b) row es)

    node_simple : (W : Ways l.Scope) (s s' : l.Scope) (m : ℕ) → SoundSimple l r.old r.local r.gone s s' (typed f i j e ps) → Statement l r.old r.new W s s' m (typed f i j e ps) (typed f' i' j' e' ps')
    node_simple W s s' m (sound.does fo x) = kin.does fo (node_expr s false x)
    node_simple W s s' m (sound.defines d ns) = kin.defines d (told d) (rows.names l r k g s s s' row ns)

    branch_node : {s s1 s' : l.Scope} {rs qs' : Typeds TypeTree} {c b : Typed TypeTree} (W : Ways l.Scope) (m : ℕ) → n ≤ k → n ≤ m → plan r.old f e ps ≡ Once Branch → First l r.old r.new W s s1 ps ps' (trees.more c (trees.more b rs)) qs' → Row l r k n (trees.more c (trees.more b rs)) qs' →
        SoundExpression l r.old r.local r.gone s1 false c → SoundStatement l r.old r.local r.gone W s1 s' b → SoundOther l r.old r.local r.gone W s1 s' rs → Statement l r.old r.new W s s' m (typed f i j e ps) (typed f' i' j' e' ps')
    branch_node {s1 = s1} {s' = s'} W m nk nm d fi (more a1 b1 le1 fc (more a2 b2 le2 fb rest)) c b o =
        kin.branch d (told d) fi (fc.expression s1 false c) (fb.statement (omega (arith, le1, le2, nk)) W s1 s' m (omega (arith, le1, le2, nm)) b) (rows.other l r k g W s1 s' m (omega (arith, le1, le2, nk)) (omega (arith, le1, le2, nm)) rest o)

    node_stmt : n ≤ k → (W : Ways l.Scope) (s s' : l.Scope) (m : ℕ) → n ≤ m → SoundStatement l r.old r.local r.gone W s s' (typed f i j e ps) → Statement l r.old r.new W s s' m (typed f i j e ps) (typed f' i' j' e' ps')
    node_stmt nk W s s' m nm (sound.simple x) = node_simple W s s' m x
    node_stmt nk W s s' m nm (sound.zeros d ns) = kin.zeros d (told d) (rows.names l r k g s s s' row ns)
    node_stmt nk W s s' m nm (sound.returns may d es) = kin.returns may d (told d) (rows.expressions l r k g s (λ k. false) row es)
    node_stmt nk W s s' m nm (sound.breaks w fo d) = kin.breaks w fo d (told d)
    node_stmt nk W s s' m nm (sound.continues w fo d) = kin.continues w fo d (told d)
    node_stmt nk W s s' m nm (sound.falls w fo d) = kin.falls w fo d (told d)
    node_stmt nk W s s' m nm (sound.sequence d c fo) = differ is_list refl single (one_plan d old)
    node_stmt nk W s s' m nm (sound.branch {s1 = s1} d fi c b o) = let x = rows.first l r k g W s s1 row fi in branch_node W m nk nm d x.1 x.2 c b o
    node_stmt nk W s s' m nm (sound.selects {s1 = s1} d fi t cs fo) =
        let x = rows.first l r k g W s s1 row fi in let y = rows.part l r k g s1 x.2 t in kin.selects d (told d) x.1 y.1 (rows.clauses l r k g (clause_ways W s' s1) s1 s' m nk nm y.2 cs) fo
    node_stmt nk W s s' m nm (sound.iterates {s1 = s1} d ra f1 f2) = kin.iterates {mb = n} d (told d) (rows.ranged l r k g W s s s1 n nk (omega arith) row ra) (omega (arith, nk, g.few)) f1 f2
    node_stmt nk W s s' m nm (sound.loops is fi pa po b fo) = no_for r.old e ps old is

    node_declares : (x : ℕ) → plan r.old f e ps ≡ Once (Declare x) → plan r.new f' e' ps' ≡ Once (Declare (r.local x))
    node_declares x d = told d

    node_clause : n ≤ k → (W : Ways l.Scope) (s s' : l.Scope) (m2 m : ℕ) → n + m2 ≤ m → SoundClause l r.old r.local r.gone W s s' (typed f i j e ps) → (ts ts' : Typeds TypeTree) → Clauses l r.old r.new W s s' m2 ts ts' → Clauses l r.old r.new W s s' m (trees.more (typed f i j e ps) ts) (trees.more (typed f' i' j' e' ps') ts')
    node_clause nk W s s' m2 m nm (sound.clause d vs c fo) ts ts' rest = differ is_list refl single (one_plan d old)
    node_clause nk W s s' m2 m nm (sound.default d c fo) ts ts' rest = differ is_list refl single (one_plan d old)

    pub node_follows : Follow l r k n (typed f i j e ps) (typed f' i' j' e' ps')
    node_follows = record { expression = node_expr; declares = node_declares; simple = node_simple; statement = node_stmt; clause = node_clause }

  -- ---- a list of statements

  module _ (n : ℕ) (f f' : Form) (i i' j j' : ℕ) (e e' : Label TypeTree) (ps ps' : Typeds TypeTree) (p : Plan) (is : is_list p ≡ true) (old : plan r.old f e ps ≡ Once p) (new : plan r.new f' e' ps' ≡ Once p) (row : ListRow l r k n (values_in p) ps ps') where
    clash : {A : Type 0} {q : Plan} → is_list q ≡ false → plan r.old f e ps ≡ Once q → A
    clash un d = differ is_list is un (one_plan old d)

    again : {q : Plan} → plan r.old f e ps ≡ Once q → plan r.new f' e' ps' ≡ Once q
    again d = new ∙ ap Once (one_plan old d)

    row_of : {q : Plan} → plan r.old f e ps ≡ Once q → ListRow l r k n (values_in q) ps ps'
    row_of d = subst (λ x. ListRow l r k n (values_in x) ps ps') (one_plan old d) row

    list_expr : (s : l.Scope) (b : Bool) → SoundExpression l r.old r.local r.gone s b (typed f i j e ps) → Expression l r.old r.new s b (typed f i j e ps) (typed f' i' j' e' ps')
    list_expr s b (sound.gives d) = clash refl d
    list_expr s b (sound.reads d a) = clash refl d
    list_expr s b (sound.changes d a w) = clash refl d
    list_expr s b (sound.plain q d x) = clash (plain_no_list q x) d
    list_expr s b (sound.inner q d x es) = clash (inner_no_list q x) d

    list_simple : (W : Ways l.Scope) (s s' : l.Scope) (m : ℕ) → SoundSimple l r.old r.local r.gone s s' (typed f i j e ps) → Statement l r.old r.new W s s' m (typed f i j e ps) (typed f' i' j' e' ps')
    list_simple W s s' m (sound.does fo x) = kin.does fo (list_expr s false x)
    list_simple W s s' m (sound.defines d ns) = clash refl d

    list_stmt : n ≤ k → (W : Ways l.Scope) (s s' : l.Scope) (m : ℕ) → n ≤ m → SoundStatement l r.old r.local r.gone W s s' (typed f i j e ps) → Statement l r.old r.new W s s' m (typed f i j e ps) (typed f' i' j' e' ps')
    list_stmt nk W s s' m nm (sound.simple x) = list_simple W s s' m x
    list_stmt nk W s s' m nm (sound.zeros d ns) = clash refl d
    list_stmt nk W s s' m nm (sound.returns may d es) = clash refl d
    list_stmt nk W s s' m nm (sound.breaks w fo d) = clash refl d
    list_stmt nk W s s' m nm (sound.continues w fo d) = clash refl d
    list_stmt nk W s s' m nm (sound.falls w fo d) = clash refl d
    list_stmt nk W s s' m nm (sound.sequence {s1 = s1} d c fo) = kin.sequence d (again d) (rows.chain l r k g W s s1 m nk nm (row_of d) c) fo
    list_stmt nk W s s' m nm (sound.branch d fi c b o) = clash refl d
    list_stmt nk W s s' m nm (sound.selects d fi t cs fo) = clash refl d
    list_stmt nk W s s' m nm (sound.iterates d ra f1 f2) = clash refl d
    list_stmt nk W s s' m nm (sound.loops is fi pa po b fo) = no_for r.old e ps old is

    list_declares : (x : ℕ) → plan r.old f e ps ≡ Once (Declare x) → plan r.new f' e' ps' ≡ Once (Declare (r.local x))
    list_declares x d = clash refl d

    list_clause : n ≤ k → (W : Ways l.Scope) (s s' : l.Scope) (m2 m : ℕ) → n + m2 ≤ m → SoundClause l r.old r.local r.gone W s s' (typed f i j e ps) → (ts ts' : Typeds TypeTree) → Clauses l r.old r.new W s s' m2 ts ts' → Clauses l r.old r.new W s s' m (trees.more (typed f i j e ps) ts) (trees.more (typed f' i' j' e' ps') ts')
    list_clause nk W s s' m2 m nm (sound.clause {s1 = s1} {n = x} d vs c fo) ts ts' rest =
        let v = rows.values l r k g s (row_of d) vs in kin.clause n m2 nm d (again d) v.1 (rows.chain l r k g W s s1 n nk (omega arith) v.2 c) fo rest
    list_clause nk W s s' m2 m nm (sound.default {s1 = s1} d c fo) ts ts' rest = kin.default n m2 nm d (again d) (rows.chain l r k g W s s1 n nk (omega arith) (row_of d) c) fo rest

    pub list_follows : Follow l r k n (typed f i j e ps) (typed f' i' j' e' ps')
    list_follows = record { expression = list_expr; declares = list_declares; simple = list_simple; statement = list_stmt; clause = list_clause }

  -- ---- a constant

  module _ (n : ℕ) (v : Value) (f f' : Form) (i i' j j' : ℕ) (e e' : Label TypeTree) (ps ps' : Typeds TypeTree) (old : plan r.old f e ps ≡ Once (Give v)) (given : (s : l.Scope) → Expression l r.old r.new s false (typed f i j e ps) (typed f' i' j' e' ps')) where
    apart : {A : Type 0} {q : Plan} → is_give q ≡ false → plan r.old f e ps ≡ Once q → A
    apart un d = differ is_give refl un (one_plan old d)

    give_expr : (s : l.Scope) (b : Bool) → SoundExpression l r.old r.local r.gone s b (typed f i j e ps) → Expression l r.old r.new s b (typed f i j e ps) (typed f' i' j' e' ps')
    give_expr s b (sound.gives d) = given s
    give_expr s b (sound.reads d a) = apart refl d
    give_expr s b (sound.changes d a w) = apart refl d
    give_expr s b (sound.plain q d x) = apart (plain_no_give q x) d
    give_expr s b (sound.inner q d x es) = apart (inner_no_give q x) d

    give_simple : (W : Ways l.Scope) (s s' : l.Scope) (m : ℕ) → SoundSimple l r.old r.local r.gone s s' (typed f i j e ps) → Statement l r.old r.new W s s' m (typed f i j e ps) (typed f' i' j' e' ps')
    give_simple W s s' m (sound.does fo x) = kin.does fo (give_expr s false x)
    give_simple W s s' m (sound.defines d ns) = apart refl d

    give_stmt : n ≤ k → (W : Ways l.Scope) (s s' : l.Scope) (m : ℕ) → n ≤ m → SoundStatement l r.old r.local r.gone W s s' (typed f i j e ps) → Statement l r.old r.new W s s' m (typed f i j e ps) (typed f' i' j' e' ps')
    give_stmt nk W s s' m nm (sound.simple x) = give_simple W s s' m x
    give_stmt nk W s s' m nm (sound.zeros d ns) = apart refl d
    give_stmt nk W s s' m nm (sound.returns may d es) = apart refl d
    give_stmt nk W s s' m nm (sound.breaks w fo d) = apart refl d
    give_stmt nk W s s' m nm (sound.continues w fo d) = apart refl d
    give_stmt nk W s s' m nm (sound.falls w fo d) = apart refl d
    give_stmt nk W s s' m nm (sound.sequence d c fo) = apart refl d
    give_stmt nk W s s' m nm (sound.branch d fi c b o) = apart refl d
    give_stmt nk W s s' m nm (sound.selects d fi t cs fo) = apart refl d
    give_stmt nk W s s' m nm (sound.iterates d ra f1 f2) = apart refl d
    give_stmt nk W s s' m nm (sound.loops is fi pa po b fo) = no_for r.old e ps old is

    give_declares : (x : ℕ) → plan r.old f e ps ≡ Once (Declare x) → plan r.new f' e' ps' ≡ Once (Declare (r.local x))
    give_declares x d = apart refl d

    give_clause : n ≤ k → (W : Ways l.Scope) (s s' : l.Scope) (m2 m : ℕ) → n + m2 ≤ m → SoundClause l r.old r.local r.gone W s s' (typed f i j e ps) → (ts ts' : Typeds TypeTree) → Clauses l r.old r.new W s s' m2 ts ts' → Clauses l r.old r.new W s s' m (trees.more (typed f i j e ps) ts) (trees.more (typed f' i' j' e' ps') ts')
    give_clause nk W s s' m2 m nm (sound.clause d vs c fo) ts ts' rest = apart refl d
    give_clause nk W s s' m2 m nm (sound.default d c fo) ts ts' rest = apart refl d

    pub give_follows : Follow l r k n (typed f i j e ps) (typed f' i' j' e' ps')
    give_follows = record { expression = give_expr; declares = give_declares; simple = give_simple; statement = give_stmt; clause = give_clause }

  -- ---- a `for`

  module _ (n : ℕ) (i i' j j' : ℕ) (e e' : Label TypeTree) (ps ps' : Typeds TypeTree) (row : Row l r k n ps ps') where
    loop_expr : (s : l.Scope) (b : Bool) → SoundExpression l r.old r.local r.gone s b (typed form.For i j e ps) → Expression l r.old r.new s b (typed form.For i j e ps) (typed form.For i' j' e' ps')
    loop_expr s b (sound.gives d) = no_loop d
    loop_expr s b (sound.reads d a) = no_loop d
    loop_expr s b (sound.changes d a w) = no_loop d
    loop_expr s b (sound.plain q d x) = no_loop d
    loop_expr s b (sound.inner q d x es) = no_loop d

    loop_simple : (W : Ways l.Scope) (s s' : l.Scope) (m : ℕ) → SoundSimple l r.old r.local r.gone s s' (typed form.For i j e ps) → Statement l r.old r.new W s s' m (typed form.For i j e ps) (typed form.For i' j' e' ps')
    loop_simple W s s' m (sound.does fo x) = kin.does fo (loop_expr s false x)
    loop_simple W s s' m (sound.defines d ns) = no_loop d

    loop_node : {s s1 s' : l.Scope} {qs qs' rs rs' us' : Typeds TypeTree} {b : Typed TypeTree} (W : Ways l.Scope) (m : ℕ) → n ≤ k → First l r.old r.new W s s1 ps ps' qs qs' → Part l r.old r.new s1 qs qs' rs rs' → First l r.old r.new W s1 s1 rs rs' (trees.more b trees.none) us' →
        Row l r k n (trees.more b trees.none) us' → SoundStatement l r.old r.local r.gone (loop_ways W s1) s1 s1 b → l.forgets s1 s' → Statement l r.old r.new W s s' m (typed form.For i j e ps) (typed form.For i' j' e' ps')
    loop_node {s1 = s1} W m nk fi pa po (more a c le fb none) b fo = kin.loops {mb = n} fi pa po (fb.statement (omega (arith, le, nk)) (loop_ways W s1) s1 s1 n (omega (arith, le)) b) (omega (arith, nk, g.few)) fo

    loop_stmt : n ≤ k → (W : Ways l.Scope) (s s' : l.Scope) (m : ℕ) → n ≤ m → SoundStatement l r.old r.local r.gone W s s' (typed form.For i j e ps) → Statement l r.old r.new W s s' m (typed form.For i j e ps) (typed form.For i' j' e' ps')
    loop_stmt nk W s s' m nm (sound.simple x) = loop_simple W s s' m x
    loop_stmt nk W s s' m nm (sound.zeros d ns) = no_loop d
    loop_stmt nk W s s' m nm (sound.returns may d es) = no_loop d
    loop_stmt nk W s s' m nm (sound.breaks w fo d) = no_loop d
    loop_stmt nk W s s' m nm (sound.continues w fo d) = no_loop d
    loop_stmt nk W s s' m nm (sound.falls w fo d) = no_loop d
    loop_stmt nk W s s' m nm (sound.sequence d c fo) = no_loop d
    loop_stmt nk W s s' m nm (sound.branch d fi c b o) = no_loop d
    loop_stmt nk W s s' m nm (sound.selects d fi t cs fo) = no_loop d
    loop_stmt nk W s s' m nm (sound.iterates d ra f1 f2) = no_loop d
    loop_stmt nk W s s' m nm (sound.loops {s1 = s1} is fi pa po b fo) =
        let x = rows.first l r k g W s s1 row fi in let y = rows.part l r k g s1 x.2 pa in let z = rows.first l r k g W s1 s1 y.2 po in loop_node W m nk x.1 y.1 z.1 z.2 b fo

    loop_declares : (x : ℕ) → plan r.old form.For e ps ≡ Once (Declare x) → plan r.new form.For e' ps' ≡ Once (Declare (r.local x))
    loop_declares x d = no_loop d

    loop_clause : n ≤ k → (W : Ways l.Scope) (s s' : l.Scope) (m2 m : ℕ) → n + m2 ≤ m → SoundClause l r.old r.local r.gone W s s' (typed form.For i j e ps) → (ts ts' : Typeds TypeTree) → Clauses l r.old r.new W s s' m2 ts ts' → Clauses l r.old r.new W s s' m (trees.more (typed form.For i j e ps) ts) (trees.more (typed form.For i' j' e' ps') ts')
    loop_clause nk W s s' m2 m nm (sound.clause d vs c fo) ts ts' rest = no_loop d
    loop_clause nk W s s' m2 m nm (sound.default d c fo) ts ts' rest = no_loop d

    pub loop_follows : Follow l r k n (typed form.For i j e ps) (typed form.For i' j' e' ps')
    loop_follows = record { expression = loop_expr; declares = loop_declares; simple = loop_simple; statement = loop_stmt; clause = loop_clause }
