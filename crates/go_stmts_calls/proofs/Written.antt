-- A call is read to be the same wherever its tokens mean the same.
use Rattle.std.proofs.Common.{◌≡◌, ◌∙◌, ℕ, suc, Bool, true, false, List, [], ◌∷◌, pos, negsuc, Option, Some, None, refl, sym, ap}
use Rattle.go_constants.specs.declared.values.Const.{Const}
use Rattle.go_constants.specs.declared.values.Const.TheVariants as const
use Rattle.go_grammar.specs.declared.kind.Kind.{Kind}
use Rattle.go_grammar.specs.declared.kind.Kind.TheVariants as kind
use Rattle.go_grammar.specs.declared.kind.Sign.TheVariants as sign
use Rattle.go_grammar.specs.Trees.{Trees, node, last}
use Rattle.go_grammar.specs.Trees as trees
use Rattle.go_tree.specs.declared.object.Object.{Object}
use Rattle.go_tree.specs.declared.object.Object.TheVariants as object
use Rattle.go_types.specs.Trees.{TypeTree, boolean, text, integer, array, slice, structure, function, declared, TypeRow, none, more}
use Rattle.go_typed.specs.declared.form.Form.{Form}
use Rattle.go_typed.specs.declared.form.Form.TheVariants as form
use Rattle.go_typed.specs.Trees.{Label, typed, sort_of, label_of}
use Rattle.go_typed.specs.Trees as sort
use Rattle.go_exprs_rules.specs.Calls.{called, all_as}
use Rattle.go_exprs_rules.specs.Names.{object_form, form_or_type}
use Rattle.go_exprs_rules.specs.Operators.{unary_sort, unary_take}
use Rattle.go_exprs_rules.specs.Scopes.{Scope, value, type_place}
use Rattle.go_exprs_rules.specs.Settling.{Part, stay, given}
use Rattle.go_exprs_rules.specs.Sorts.{Stands}
use Rattle.go_exprs_rules.specs.Tables.{Parts, leaf, made, all_given, is_sound, own_faults, layout, built_by}
use Rattle.go_exprs_rules.specs.Typing.{typing, typings}
use Rattle.go_print_laws.specs.Calls.{Argument, variable, constant, argument_tree, names_end, call_tree}
use Rattle.go_print_laws.specs.Literals.{literal_tree}
use Rattle.go_print_laws.specs.Reading.{unmarked, ReadsType, IsWithin, at_place, LiteralsReadBack, TypesReadBack}
use Rattle.go_print_laws.specs.Trees.{name_at, number_at, type_tree}
use Rattle.go_stmts_defs.specs.Frames.{Frame, scope_of, with_local}
use Rattle.go_stmts_elsewhere.specs.Replaced.{SaysAs}
use Rattle.go_stmts_calls.specs.Calls.{MeansVariable, ArgumentFits, FurtherFit, ArgumentsFit, IsTarget, blank, FurtherTargets, StatementReads, DeclarationReads, CallReads, further_parts, argument_parts, call_part, target_at, targets_at, assignment_part, statement_part, declaration_part, call_parts}
use Rattle.go_stmts_calls.specs.Calls as calls
use Rattle.go_stmts_calls.specs.Written.{variable_in, number_in, negative_in, constant_in, type_in, argument_in, further_in, arguments_in, call_in, targets_in, statement_in, declaration_in, written_parts}
use Rattle.go_stmts_calls.proofs.Named.{variable_typed}
use Rattle.go_stmts_calls.proofs.Quiet.{type_quiet}

-- ---- constants

module _ (s : Scope) (i : ℕ) (c : Const) where
  name_by : (b : Bool) → sort_of (built_by s kind.Name value i (suc i) [] b) ≡ sort.OpenConstant c → built_by s kind.Name value i (suc i) [] b ≡ made (object_form s (s.objects i)) i (suc i) (sort.OpenConstant c) [] []
  name_by true e = ap (λ x. made (form_or_type x (object_form s (s.objects i))) i (suc i) x [] []) e
  name_by false e = cc

  name_constant : sort_of (typing s value (name_at i)) ≡ sort.OpenConstant c → typing s value (name_at i) ≡ made (object_form s (s.objects i)) i (suc i) (sort.OpenConstant c) [] []
  name_constant e = name_by (is_sound kind.Name [] (own_faults s kind.Name value i (suc i) [])) e

  number_by : (b : Bool) → sort_of (built_by s kind.Integer value i (suc i) [] b) ≡ sort.OpenConstant c → built_by s kind.Integer value i (suc i) [] b ≡ made form.Literal i (suc i) (sort.OpenConstant c) [] []
  number_by true e = ap (λ x. made form.Literal i (suc i) x [] []) e
  number_by false e = cc

  number_constant : sort_of (typing s value (number_at i)) ≡ sort.OpenConstant c → typing s value (number_at i) ≡ made form.Literal i (suc i) (sort.OpenConstant c) [] []
  number_constant e = number_by (is_sound kind.Integer [] (own_faults s kind.Integer value i (suc i) [])) e

  text_by : (b : Bool) → sort_of (built_by s kind.Text value i (suc i) [] b) ≡ sort.OpenConstant c → built_by s kind.Text value i (suc i) [] b ≡ made form.Literal i (suc i) (sort.OpenConstant c) [] []
  text_by true e = ap (λ x. made form.Literal i (suc i) x [] []) e
  text_by false e = cc

  text_constant : sort_of (typing s value (node kind.Text i (suc i) trees.none)) ≡ sort.OpenConstant c → typing s value (node kind.Text i (suc i) trees.none) ≡ made form.Literal i (suc i) (sort.OpenConstant c) [] []
  text_constant e = text_by (is_sound kind.Text [] (own_faults s kind.Text value i (suc i) [])) e

  -- a minus in front of a number
  operand_by : (b : Bool) → unary_sort s.rights sign.Minus (sort_of (built_by s kind.Integer value (suc i) (suc (suc i)) [] b)) ≡ sort.OpenConstant c
      → built_by s kind.Integer value (suc i) (suc (suc i)) [] b ≡ number_in (suc i) (s.texts (suc i))
  operand_by true e = refl
  operand_by false e = cc

  negative_by : (x : Part) → (unary_sort s.rights sign.Minus (sort_of x) ≡ sort.OpenConstant c → x ≡ number_in (suc i) (s.texts (suc i))) → (b : Bool) → sort_of (built_by s (kind.Unary sign.Minus) value i (suc (suc i)) (Some x ∷ []) b) ≡ sort.OpenConstant c
      → built_by s (kind.Unary sign.Minus) value i (suc (suc i)) (Some x ∷ []) b ≡ negative_in i c (number_in (suc i) (s.texts (suc i)))
  negative_by x d true e = ap (λ y. made (form.Unary sign.Minus) i (suc (suc i)) y (Some x ∷ []) (Some (given (unary_take (sort_of x)) x) ∷ [])) e ∙ ap (negative_in i c) (d e)
  negative_by x d false e = cc

  negative_constant : sort_of (typing s value (node (kind.Unary sign.Minus) i (suc (suc i)) (trees.more (number_at (suc i)) trees.none))) ≡ sort.OpenConstant c
      → typing s value (node (kind.Unary sign.Minus) i (suc (suc i)) (trees.more (number_at (suc i)) trees.none)) ≡ negative_in i c (number_in (suc i) (s.texts (suc i)))
  negative_constant e =
      let x = typing s value (number_at (suc i)) in
      let ys : Parts = Some x ∷ [] in
      negative_by x (λ d. operand_by (is_sound kind.Integer [] (own_faults s kind.Integer value (suc i) (suc (suc i)) [])) d)
      (is_sound (kind.Unary sign.Minus) ys (own_faults s (kind.Unary sign.Minus) value i (suc (suc i)) ys)) e

-- ---- types

leaf_by : (s : Scope) (k : Kind) (i j : ℕ) (ys : Parts) (b : Bool) → leaf (built_by s k type_place i j ys b) ≡ typed form.Type i j (label_of (built_by s k type_place i j ys b)) sort.none
leaf_by s k i j ys true = refl
leaf_by s k i j ys false = refl

node_leaf : (s : Scope) (k : Kind) (i j : ℕ) (ps : Trees) → leaf (typing s type_place (node k i j ps)) ≡ typed form.Type i j (label_of (typing s type_place (node k i j ps))) sort.none
node_leaf s k i j ps =
    let ys = layout k (typings s k type_place ps [] ps) in
    leaf_by s k i j ys (is_sound k ys (own_faults s k type_place i j ys))

type_leaf : (s : Scope) (i : ℕ) (u : TypeTree) → leaf (typing s type_place (type_tree i u)) ≡ typed form.Type i (last (type_tree i u)) (label_of (typing s type_place (type_tree i u))) sort.none
type_leaf s i boolean = node_leaf s kind.Name i (suc i) trees.none
type_leaf s i text = node_leaf s kind.Name i (suc i) trees.none
type_leaf s i (integer k) = node_leaf s kind.Name i (suc i) trees.none
type_leaf s i (declared n) = node_leaf s kind.Name i (suc i) trees.none
type_leaf s i (array n t) = node_leaf s kind.SequenceType i (last (type_tree i (array n t))) (trees.parts (type_tree i (array n t)))
type_leaf s i (slice t) = node_leaf s kind.SequenceType i (last (type_tree i (slice t))) (trees.parts (type_tree i (slice t)))
type_leaf s i (structure ns ts) = node_leaf s kind.StructType i (last (type_tree i (structure ns ts))) (trees.parts (type_tree i (structure ns ts)))
type_leaf s i (function ps rs) = node_leaf s kind.FunctionType i (last (type_tree i (function ps rs))) (trees.parts (type_tree i (function ps rs)))

sort_labelled : (x : Part) → sort_of x ≡ (label_of x).sort
sort_labelled (typed f i j l ps) = refl

label_is : (l : Label TypeTree) (u : TypeTree) → l.sort ≡ sort.IsType u → l.varies ≡ false → l.calls ≡ false → l ≡ record { sort = sort.IsType u; varies = false; calls = false }
label_is l u e v c =
    ap (λ (x : Stands). record (l) { sort = x }) e ∙ ap (λ (b : Bool). record (l) { sort = sort.IsType u; varies = b }) v ∙ ap (λ (b : Bool). record (l) { sort = sort.IsType u; varies = false; calls = b }) c

module _ (t : Scope) where
  -- ---- names

  form_alike : (g : Frame) → SaysAs t g → (o : Option Object) → object_form (scope_of g) o ≡ object_form t o
  form_alike g c None = refl
  form_alike g c (Some object.Import) = refl
  form_alike g c (Some (object.Predeclared p)) = refl
  form_alike g c (Some (object.Package n)) = ap form.Object (c.referents n)
  form_alike g c (Some (object.Local f n)) = refl

  constant_alike : (g : Frame) → SaysAs t g → (i : ℕ) (v : Const) → sort_of (typing (scope_of g) value (literal_tree i v)) ≡ sort.OpenConstant (unmarked v) → typing (scope_of g) value (literal_tree i v) ≡ constant_in t i v
  constant_alike g c i (const.Bool b) e =
      name_constant (scope_of g) i (const.Bool b) e ∙ ap (λ f. made f i (suc i) (sort.OpenConstant (const.Bool b)) [] []) (form_alike g c (g.around.objects i) ∙ ap (object_form t) (c.objects i))
  constant_alike g c i (const.Int (pos n) r) e = number_constant (scope_of g) i (const.Int (pos n) false) e
  constant_alike g c i (const.Int (negsuc n) r) e =
      negative_constant (scope_of g) i (const.Int (negsuc n) false) e ∙ ap (λ x. negative_in i (const.Int (negsuc n) false) (number_in (suc i) x)) (c.texts (suc i))
  constant_alike g c i (const.Text bs) e = text_constant (scope_of g) i (const.Text bs) e

  variable_alike : (g : Frame) → SaysAs t g → (i : ℕ) (u : TypeTree) (v : MeansVariable g i u) → made (form.Local v.number) i (suc i) (sort.Value u) [] [] ≡ variable_in (t.objects i) i u
  variable_alike g c i u v = ap (λ o. variable_in o i u) (sym v.means.1 ∙ c.objects i)

  target_alike : (g : Frame) → SaysAs t g → (i : ℕ) (u : TypeTree) (w : IsTarget g i u) → target_at g i u w ≡ variable_in (t.objects i) i u
  target_alike g c i u (blank e) = ap (λ o. variable_in o i u) (sym e ∙ c.objects i)
  target_alike g c i u (calls.given v) = variable_alike g c i u v

  targets_alike : (g : Frame) → SaysAs t g → (i : ℕ) (xs : List (List ℕ)) (us : TypeRow) (w : FurtherTargets g i xs us) → targets_at g i xs us w ≡ targets_in t i xs us
  targets_alike g c i [] none w = refl
  targets_alike g c i (x ∷ xs) (more u us) w =
      ap (λ y. Some y ∷ targets_at g (suc (suc i)) xs us w.1) (target_alike g c (suc i) u w.0) ∙ ap (λ ys. Some (variable_in (t.objects (suc i)) (suc i) u) ∷ ys) (targets_alike g c (suc (suc i)) xs us w.1)
  targets_alike g c i [] (more u us) w = absurd w
  targets_alike g c i (x ∷ xs) none w = absurd w

  module _ (literals : LiteralsReadBack) (types : TypesReadBack) where
    -- ---- the call

    argument_alike : (g : Frame) → SaysAs t g → (i : ℕ) (a : Argument) (u : TypeTree) → ArgumentFits g i a u → typing (scope_of g) value (argument_tree i a) ≡ argument_in t i a u
    argument_alike g c i (variable n) u v = variable_typed g i u v ∙ variable_alike g c i u v
    argument_alike g c i (constant v) u w = constant_alike g c i v (literals (scope_of g) i v w.read w.reads).stands

    further_alike : (g : Frame) → SaysAs t g → (i : ℕ) (gs : List Argument) (us : TypeRow) → FurtherFit g i gs us → further_parts (scope_of g) i gs ≡ further_in t i gs us
    further_alike g c i [] none w = refl
    further_alike g c i (a ∷ gs) (more u us) w =
        let j = last (argument_tree (suc i) a) in
        ap (λ y. Some y ∷ further_parts (scope_of g) j gs) (argument_alike g c (suc i) a u w.0) ∙ ap (λ ys. Some (argument_in t (suc i) a u) ∷ ys) (further_alike g c j gs us w.1)
    further_alike g c i [] (more u us) w = absurd w
    further_alike g c i (a ∷ gs) none w = absurd w

    arguments_alike : (g : Frame) → SaysAs t g → (i : ℕ) (gs : List Argument) (us : TypeRow) → ArgumentsFit g i gs us → argument_parts (scope_of g) i gs ≡ arguments_in t i gs us
    arguments_alike g c i [] none w = refl
    arguments_alike g c i (a ∷ gs) (more u us) w =
        let j = last (argument_tree i a) in
        ap (λ y. Some y ∷ further_parts (scope_of g) j gs) (argument_alike g c i a u w.0) ∙ ap (λ ys. Some (argument_in t i a u) ∷ ys) (further_alike g c j gs us w.1)
    arguments_alike g c i [] (more u us) w = absurd w
    arguments_alike g c i (a ∷ gs) none w = absurd w

    abbrev call_over : ℕ → List Argument → TypeRow → TypeRow → Form → Parts → Part
    call_over i gs ps rs f xs =
        let callee : Part = made f i (suc i) (sort.Value (function ps rs)) [] [] in
        let ys : Parts = Some callee ∷ xs in
        made form.Call i (last (call_tree i gs)) (called (function ps rs) rs) ys (all_given (stay ∷ all_as ps) ys)

    call_alike : (g : Frame) → SaysAs t g → (i number : ℕ) (gs : List Argument) (ps rs : TypeRow) → ArgumentsFit g (suc (suc i)) gs ps → call_part g i number gs ps rs ≡ call_in t i number gs ps rs
    call_alike g c i number gs ps rs w =
        ap (λ r. call_over i gs ps rs (form.Object r) (argument_parts (scope_of g) (suc (suc i)) gs)) (c.referents number)
        ∙ ap (call_over i gs ps rs (form.Object (t.referents number))) (arguments_alike g c (suc (suc i)) gs ps w)

    -- ---- statements

    statement_alike : (g : Frame) → SaysAs t g → (i : ℕ) (xs : List (List ℕ)) (number : ℕ) (gs : List Argument) (ps rs : TypeRow) (w : StatementReads g i xs number gs ps rs)
        → statement_part g i xs number gs ps rs w ≡ statement_in t i xs number gs ps rs
    statement_alike g c i [] number gs ps rs w = ap (λ (x : Part). made form.Expression i (last (call_tree i gs)) sort.Nothing (Some x ∷ []) (Some x ∷ [])) (call_alike g c i number gs ps rs w.1)
    statement_alike g c i (x ∷ xs) number gs ps none w = absurd w
    statement_alike g c i (x ∷ xs) number gs ps (more r rs) w =
        let j = suc (names_end (suc i) xs) in
        let k = last (call_tree j gs) in
        ap (λ y. assignment_part i k (Some y ∷ targets_at g (suc i) xs rs w.1) (call_part g j number gs ps (more r rs))) (target_alike g c i r w.0)
        ∙ ap (λ ys. assignment_part i k (Some (variable_in (t.objects i) i r) ∷ ys) (call_part g j number gs ps (more r rs))) (targets_alike g c (suc i) xs rs w.1)
        ∙ ap (assignment_part i k (Some (variable_in (t.objects i) i r) ∷ targets_in t (suc i) xs rs)) (call_alike g c j number gs ps (more r rs) w.3)

    -- ---- declarations

    type_alike : (s : Scope) (i : ℕ) (u : TypeTree) → IsWithin s u → ReadsType s type_place i u → leaf (typing s type_place (type_tree i u)) ≡ type_in i u
    type_alike s i u w r =
        let x = typing s type_place (type_tree i u) in
        let q = type_quiet types s u type_place i at_place w r in
        type_leaf s i u ∙ ap (λ l. typed form.Type i (last (type_tree i u)) l sort.none) (label_is (label_of x) u (sym (sort_labelled x) ∙ (types s type_place i u at_place w r).stands) q.0 q.1)

    abbrev declaration_over : ℕ → ℕ → TypeTree → Part → Part
    declaration_over i n u y =
        let j : ℕ = last (type_tree (suc (suc i)) u) in
        let name : Stands → Part = λ x. made (form.Declared n) (suc i) (suc (suc i)) x [] [] in
        let specified : Part = made (form.Specified 1) (suc i) j sort.Nothing (Some (name sort.Nothing) ∷ Some y ∷ []) (Some (name (sort.Value u)) ∷ Some y ∷ []) in
        made form.Variables i j sort.Nothing (Some specified ∷ []) (Some specified ∷ [])

    declaration_alike : (g : Frame) (i n : ℕ) (u : TypeTree) → DeclarationReads g i n u → declaration_part g i n u ≡ declaration_in i n u
    declaration_alike g i n u w = ap (declaration_over i n u) (type_alike (scope_of g) (suc (suc i)) u w.within w.reads)

    says_on : (g : Frame) (n : ℕ) (x : Stands) → SaysAs t g → SaysAs t (with_local n x g)
    says_on g n x c = record { texts = c.texts; characters = c.characters; objects = c.objects; sorts = c.sorts; referents = c.referents; needed = c.needed; limits = c.limits }

    pub read_alike : (g : Frame) → SaysAs t g → (i : ℕ) (ys : List (List ℕ)) (us : TypeRow) (ns : List ℕ) (xs : List (List ℕ)) (number : ℕ) (gs : List Argument) (ps rs : TypeRow) (w : CallReads g i ys us ns xs number gs ps rs)
        → call_parts g i ys us ns xs number gs ps rs w ≡ written_parts t i ys us ns xs number gs ps rs
    read_alike g c i [] none [] xs number gs ps rs w = ap (λ (x : Part). Some x ∷ []) (statement_alike g c i xs number gs ps rs w)
    read_alike g c i (y ∷ ys) (more u us) (n ∷ ns) xs number gs ps rs w =
        let j = suc (last (type_tree (suc (suc i)) u)) in
        let d = with_local n (sort.Value u) g in
        ap (λ x. Some x ∷ call_parts d j ys us ns xs number gs ps rs w.1) (declaration_alike g i n u w.0)
        ∙ ap (λ zs. Some (declaration_in i n u) ∷ zs) (read_alike d (says_on g n (sort.Value u) c) j ys us ns xs number gs ps rs w.1)
    read_alike g c i [] none (n ∷ ns) xs number gs ps rs w = absurd w
    read_alike g c i [] (more u us) ns xs number gs ps rs w = absurd w
    read_alike g c i (y ∷ ys) none ns xs number gs ps rs w = absurd w
    read_alike g c i (y ∷ ys) (more u us) [] xs number gs ps rs w = absurd w
