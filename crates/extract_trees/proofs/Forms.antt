-- A form is known from its outline, but for the local that it names and for the kind of a holder.
use Rattle.std.proofs.Common.{◌≡◌, ◌∙◌, ℕ, true, false, ◌∷◌, [], None, refl, sym, ap, subst}
use Rattle.std.specs.Prelude.{◌-◌, ◌&&◌, if◌then◌else◌, nat_eq, nat_lt, List, slice_get, unwrap_or}
use Rattle.std.proofs.lemmas.Bool.{eqb-true, and_parts}
use Rattle.go_grammar.specs.declared.kind.Arithmetic.{Arithmetic}
use Rattle.go_grammar.specs.declared.kind.Arithmetic.TheVariants as arithmetic
use Rattle.go_grammar.specs.declared.kind.Comparison.{Comparison}
use Rattle.go_grammar.specs.declared.kind.Comparison.TheVariants as comparison
use Rattle.go_grammar.specs.declared.kind.Kind.{Kind}
use Rattle.go_grammar.specs.declared.kind.Kind.TheVariants as kind
use Rattle.go_grammar.specs.declared.kind.Operator.{Operator}
use Rattle.go_grammar.specs.declared.kind.Operator.TheVariants as operator
use Rattle.go_grammar.specs.declared.kind.Sign.{Sign}
use Rattle.go_grammar.specs.declared.kind.Sign.TheVariants as sign
use Rattle.go_grammar.specs.declared.kind.Step.{Step}
use Rattle.go_grammar.specs.declared.kind.Step.TheVariants as step
use Rattle.go_tree.specs.declared.object.Predeclared.{Predeclared}
use Rattle.go_tree.specs.declared.object.Predeclared.TheVariants as predeclared
use Rattle.go_typed.specs.declared.form.Form.{Form}
use Rattle.go_typed.specs.declared.form.Form.TheVariants as form
use Rattle.go_typed.specs.declared.form.Referent.{Referent}
use Rattle.go_typed.specs.declared.form.Referent.TheVariants as referent
use Rattle.go_typed.specs.Forms.{is_holder, local_of}
use Rattle.clone_window.specs.Kinds.{outline, arithmetic_number, assigning_number, operator_number, sign_number, step_number, predeclared_number}
use Rattle.clone_window.specs.Sameness.{same_outline}

-- ---- what the numbers stand for

abbrev arithmetics : List Arithmetic
arithmetics = arithmetic.Add ∷ arithmetic.Add ∷ arithmetic.Subtract ∷ arithmetic.Multiply ∷ arithmetic.Divide ∷ arithmetic.Remainder ∷ arithmetic.And ∷ arithmetic.Or ∷ arithmetic.Xor ∷ arithmetic.ShiftLeft ∷ arithmetic.ShiftRight ∷ arithmetic.AndNot ∷ []

abbrev arithmetic_of : ℕ → Arithmetic
arithmetic_of n = unwrap_or (slice_get arithmetics n) arithmetic.Add

abbrev assigning_of : ℕ → Arithmetic
assigning_of n = arithmetic_of (n - 11)

abbrev comparisons : List Comparison
comparisons = comparison.Equal ∷ comparison.NotEqual ∷ comparison.Less ∷ comparison.Greater ∷ comparison.LessEqual ∷ comparison.GreaterEqual ∷ []

abbrev comparison_of : ℕ → Comparison
comparison_of n = unwrap_or (slice_get comparisons (n - 27)) comparison.Equal

abbrev operator_of : ℕ → Operator
operator_of n = if nat_lt n 12 then operator.Compute (arithmetic_of n) else (if nat_eq n 23 then operator.Both else (if nat_eq n 24 then operator.Either else operator.Compare (comparison_of n)))

abbrev sign_of : ℕ → Sign
sign_of n = if nat_eq n 1 then sign.Plus else (if nat_eq n 2 then sign.Minus else (if nat_eq n 8 then sign.Complement else sign.Not))

abbrev step_of : ℕ → Step
step_of n = if nat_eq n 25 then step.Increment else step.Decrement

abbrev names : List Predeclared
names = predeclared.Bool ∷ predeclared.String ∷ predeclared.Int ∷ predeclared.Int8 ∷ predeclared.Int16 ∷ predeclared.Int32 ∷ predeclared.Int64 ∷ predeclared.Uint ∷ predeclared.Uint8 ∷ predeclared.Uint16 ∷ predeclared.Uint32 ∷ predeclared.Uint64 ∷ predeclared.Byte ∷ predeclared.Rune ∷ predeclared.True ∷ predeclared.False ∷ predeclared.Iota ∷ predeclared.Nil ∷ predeclared.Append ∷ predeclared.Cap ∷ predeclared.Copy ∷ predeclared.Len ∷ predeclared.Make ∷ predeclared.Max ∷ predeclared.Min ∷ predeclared.Panic ∷ []

abbrev name_of : ℕ → Predeclared
name_of n = unwrap_or (slice_get names n) predeclared.Bool

abbrev referents : ℕ → List Referent
referents n = referent.Println ∷ referent.Constant n ∷ referent.Type n ∷ referent.Variable n ∷ referent.Function n ∷ referent.Predeclared (name_of n) ∷ referent.Println ∷ []

abbrev referent_of : ℕ → ℕ → Referent
referent_of o n = unwrap_or (slice_get (referents n) o) referent.Println

abbrev locals : List Form
locals = form.Local 0 ∷ form.New 0 ∷ form.Declared 0 ∷ []

abbrev forms : ℕ → ℕ → List Form
forms o n =
    form.Blank ∷ form.Expression ∷ form.Step (step_of o) ∷ form.Blank ∷ form.Assign n ∷ form.Operate (assigning_of o) ∷ form.Define n ∷ form.Variables ∷ form.Constants ∷ form.TypeNames ∷ form.Return ∷
    form.Break ∷ form.Continue ∷ form.Fallthrough ∷ form.Block ∷ form.If ∷ form.Switch ∷ form.Case n ∷ form.Default ∷ form.For ∷ form.Range false n ∷ form.Range true n ∷
    form.Blank ∷ form.Blank ∷ form.Blank ∷ form.Blank ∷ form.Blank ∷ form.Blank ∷ form.Blank ∷ form.Blank ∷ form.Blank ∷ unwrap_or (slice_get locals n) form.Blank ∷ form.Object (referent_of o n) ∷
    form.Blank ∷ form.Literal ∷ form.Parenthesized ∷ form.Selector n ∷ form.Index ∷ form.Slice ∷ form.Call ∷ form.Conversion ∷ form.Composite ∷ form.Unary (sign_of o) ∷ form.Binary (operator_of o) ∷
    form.Blank ∷ form.Blank ∷ form.Blank ∷ form.Blank ∷ form.Blank ∷ form.Blank ∷ form.Specified n ∷ form.Keyed n ∷ form.Type ∷ form.Function ∷ form.Held kind.Block ∷ []

-- the form of an outline, with the local 0
abbrev form_of : ℕ → ℕ → ℕ → Form
form_of k o n = unwrap_or (slice_get (forms o n) k) form.Blank

-- ---- and back

arithmetic_again : (a : Arithmetic) → arithmetic_of (arithmetic_number a) ≡ a
arithmetic_again arithmetic.Add = refl
arithmetic_again arithmetic.Subtract = refl
arithmetic_again arithmetic.Multiply = refl
arithmetic_again arithmetic.Divide = refl
arithmetic_again arithmetic.Remainder = refl
arithmetic_again arithmetic.And = refl
arithmetic_again arithmetic.Or = refl
arithmetic_again arithmetic.Xor = refl
arithmetic_again arithmetic.ShiftLeft = refl
arithmetic_again arithmetic.ShiftRight = refl
arithmetic_again arithmetic.AndNot = refl

assigning_again : (a : Arithmetic) → assigning_of (assigning_number a) ≡ a
assigning_again arithmetic.Add = refl
assigning_again arithmetic.Subtract = refl
assigning_again arithmetic.Multiply = refl
assigning_again arithmetic.Divide = refl
assigning_again arithmetic.Remainder = refl
assigning_again arithmetic.And = refl
assigning_again arithmetic.Or = refl
assigning_again arithmetic.Xor = refl
assigning_again arithmetic.ShiftLeft = refl
assigning_again arithmetic.ShiftRight = refl
assigning_again arithmetic.AndNot = refl

operator_again : (o : Operator) → operator_of (operator_number o) ≡ o
operator_again operator.Both = refl
operator_again operator.Either = refl
operator_again (operator.Compare comparison.Equal) = refl
operator_again (operator.Compare comparison.NotEqual) = refl
operator_again (operator.Compare comparison.Less) = refl
operator_again (operator.Compare comparison.Greater) = refl
operator_again (operator.Compare comparison.LessEqual) = refl
operator_again (operator.Compare comparison.GreaterEqual) = refl
operator_again (operator.Compute arithmetic.Add) = refl
operator_again (operator.Compute arithmetic.Subtract) = refl
operator_again (operator.Compute arithmetic.Multiply) = refl
operator_again (operator.Compute arithmetic.Divide) = refl
operator_again (operator.Compute arithmetic.Remainder) = refl
operator_again (operator.Compute arithmetic.And) = refl
operator_again (operator.Compute arithmetic.Or) = refl
operator_again (operator.Compute arithmetic.Xor) = refl
operator_again (operator.Compute arithmetic.ShiftLeft) = refl
operator_again (operator.Compute arithmetic.ShiftRight) = refl
operator_again (operator.Compute arithmetic.AndNot) = refl

sign_again : (s : Sign) → sign_of (sign_number s) ≡ s
sign_again sign.Plus = refl
sign_again sign.Minus = refl
sign_again sign.Not = refl
sign_again sign.Complement = refl

step_again : (s : Step) → step_of (step_number s) ≡ s
step_again step.Increment = refl
step_again step.Decrement = refl

name_again : (p : Predeclared) → name_of (predeclared_number p) ≡ p
name_again predeclared.Bool = refl
name_again predeclared.String = refl
name_again predeclared.Int = refl
name_again predeclared.Int8 = refl
name_again predeclared.Int16 = refl
name_again predeclared.Int32 = refl
name_again predeclared.Int64 = refl
name_again predeclared.Uint = refl
name_again predeclared.Uint8 = refl
name_again predeclared.Uint16 = refl
name_again predeclared.Uint32 = refl
name_again predeclared.Uint64 = refl
name_again predeclared.Byte = refl
name_again predeclared.Rune = refl
name_again predeclared.True = refl
name_again predeclared.False = refl
name_again predeclared.Iota = refl
name_again predeclared.Nil = refl
name_again predeclared.Append = refl
name_again predeclared.Cap = refl
name_again predeclared.Copy = refl
name_again predeclared.Len = refl
name_again predeclared.Make = refl
name_again predeclared.Max = refl
name_again predeclared.Min = refl
name_again predeclared.Panic = refl

-- What its outline tells of a form: all of it, or which sort of local it names, or that it is a holder.
pub data Known : Form → Form → Type 0 where
  whole : {f : Form} → local_of f ≡ None → is_holder f ≡ false → Known f f
  used : {n : ℕ} → Known (form.Local n) (form.Local 0)
  new : {n : ℕ} → Known (form.New n) (form.New 0)
  declared : {n : ℕ} → Known (form.Declared n) (form.Declared 0)
  holder : {k : Kind} → Known (form.Held k) (form.Held kind.Block)

abbrev told : Form → Form
told f = form_of (outline f).kind (outline f).operator (outline f).count

entire : (f g : Form) → g ≡ f → local_of f ≡ None → is_holder f ≡ false → Known f g
entire f g e n h = subst (λ x. Known f x) (sym e) (whole n h)

known : (f : Form) → Known f (told f)
known form.Function = whole refl refl
known form.Expression = whole refl refl
known form.Variables = whole refl refl
known form.Constants = whole refl refl
known form.TypeNames = whole refl refl
known form.Return = whole refl refl
known form.Break = whole refl refl
known form.Continue = whole refl refl
known form.Fallthrough = whole refl refl
known form.Block = whole refl refl
known form.If = whole refl refl
known form.Switch = whole refl refl
known form.Default = whole refl refl
known form.For = whole refl refl
known form.Blank = whole refl refl
known form.Literal = whole refl refl
known form.Parenthesized = whole refl refl
known form.Index = whole refl refl
known form.Slice = whole refl refl
known form.Call = whole refl refl
known form.Conversion = whole refl refl
known form.Composite = whole refl refl
known form.Type = whole refl refl
known (form.Assign n) = whole refl refl
known (form.Define n) = whole refl refl
known (form.Specified n) = whole refl refl
known (form.Case n) = whole refl refl
known (form.Selector n) = whole refl refl
known (form.Keyed n) = whole refl refl
known (form.Range true n) = whole refl refl
known (form.Range false n) = whole refl refl
known (form.Step s) = entire (form.Step s) (form.Step (step_of (step_number s))) (ap form.Step (step_again s)) refl refl
known (form.Operate a) = entire (form.Operate a) (form.Operate (assigning_of (assigning_number a))) (ap form.Operate (assigning_again a)) refl refl
known (form.Unary s) = entire (form.Unary s) (form.Unary (sign_of (sign_number s))) (ap form.Unary (sign_again s)) refl refl
known (form.Binary o) = entire (form.Binary o) (form.Binary (operator_of (operator_number o))) (ap form.Binary (operator_again o)) refl refl
known (form.Object (referent.Constant n)) = whole refl refl
known (form.Object (referent.Type n)) = whole refl refl
known (form.Object (referent.Variable n)) = whole refl refl
known (form.Object (referent.Function n)) = whole refl refl
known (form.Object (referent.Predeclared p)) = entire (form.Object (referent.Predeclared p)) (form.Object (referent.Predeclared (name_of (predeclared_number p)))) (ap (λ x. form.Object (referent.Predeclared x)) (name_again p)) refl refl
known (form.Object referent.Println) = whole refl refl
known (form.Local n) = used
known (form.New n) = new
known (form.Declared n) = declared
known (form.Held k) = holder

-- ---- two forms of one outline

pub data AreOneForm : Form → Form → Type 0 where
  one : {f : Form} → local_of f ≡ None → is_holder f ≡ false → AreOneForm f f
  used : {n m : ℕ} → AreOneForm (form.Local n) (form.Local m)
  new : {n m : ℕ} → AreOneForm (form.New n) (form.New m)
  declared : {n m : ℕ} → AreOneForm (form.Declared n) (form.Declared m)
  holders : {k l : Kind} → AreOneForm (form.Held k) (form.Held l)

met : (f g x y : Form) → Known f x → Known g y → x ≡ y → AreOneForm f g
met f g x y (whole n h) (whole m k) e = subst (λ z. AreOneForm f z) e (one n h)
met f g x y (whole n h) used e = let k : local_of (form.Local 0) ≡ None = subst (λ z. local_of z ≡ None) e n in cc
met f g x y (whole n h) new e = let k : local_of (form.New 0) ≡ None = subst (λ z. local_of z ≡ None) e n in cc
met f g x y (whole n h) declared e = let k : local_of (form.Declared 0) ≡ None = subst (λ z. local_of z ≡ None) e n in cc
met f g x y (whole n h) holder e = let k : is_holder (form.Held kind.Block) ≡ false = subst (λ z. is_holder z ≡ false) e h in cc
met f g x y used (whole m k) e = let h : local_of (form.Local 0) ≡ None = subst (λ z. local_of z ≡ None) (sym e) m in cc
met f g x y new (whole m k) e = let h : local_of (form.New 0) ≡ None = subst (λ z. local_of z ≡ None) (sym e) m in cc
met f g x y declared (whole m k) e = let h : local_of (form.Declared 0) ≡ None = subst (λ z. local_of z ≡ None) (sym e) m in cc
met f g x y holder (whole m k) e = let h : is_holder (form.Held kind.Block) ≡ false = subst (λ z. is_holder z ≡ false) (sym e) k in cc
met f g x y used used e = used
met f g x y used new e = cc
met f g x y used declared e = cc
met f g x y used holder e = cc
met f g x y new used e = cc
met f g x y new new e = new
met f g x y new declared e = cc
met f g x y new holder e = cc
met f g x y declared used e = cc
met f g x y declared new e = cc
met f g x y declared declared e = declared
met f g x y declared holder e = cc
met f g x y holder used e = cc
met f g x y holder new e = cc
met f g x y holder declared e = cc
met f g x y holder holder e = holders

pub one_form : (f g : Form) → same_outline (outline f) (outline g) ≡ true → AreOneForm f g
one_form f g h =
    let p = and_parts (nat_eq (outline f).kind (outline g).kind && nat_eq (outline f).operator (outline g).operator) (nat_eq (outline f).count (outline g).count) h in
    let q = and_parts (nat_eq (outline f).kind (outline g).kind) (nat_eq (outline f).operator (outline g).operator) p.0 in
    let k : (outline f).kind ≡ (outline g).kind = eqb-true (outline f).kind (outline g).kind q.0 in
    let o : (outline f).operator ≡ (outline g).operator = eqb-true (outline f).operator (outline g).operator q.1 in
    let n : (outline f).count ≡ (outline g).count = eqb-true (outline f).count (outline g).count p.1 in
    let e : told f ≡ told g = ap (λ x. form_of x (outline f).operator (outline f).count) k ∙ ap (λ x. form_of (outline g).kind x (outline f).count) o ∙ ap (λ x. form_of (outline g).kind (outline g).operator x) n in
    met f g (told f) (told g) (known f) (known g) e
