-- In texts of statements, expressions and types stand no functions that are declared, and no files.
use Rattle.std.proofs.Common.{◌≡◌, Bool, true, false, refl}
use Rattle.std.specs.Prelude.{IsTrue}
use Rattle.go_grammar.specs.declared.kind.Category.{Category}
use Rattle.go_grammar.specs.declared.kind.Category.TheVariants as category
use Rattle.go_grammar.specs.declared.kind.Kind.{Kind}
use Rattle.go_grammar.specs.declared.kind.Kind.TheVariants as kind
use Rattle.go_grammar.specs.declared.kind.Level.TheVariants as level
use Rattle.go_grammar.specs.declared.kind.Place.{Place}
use Rattle.go_grammar.specs.declared.kind.Place.TheVariants as place
use Rattle.go_grammar.specs.declared.kind.Sort.TheVariants as declaring
use Rattle.go_grammar.specs.Categories.{within}
use Rattle.go_grammar.specs.Grammar.{rule}
use Rattle.go_grammar.specs.Rules.{Rule, End, Then, Maybe, Unless, Many, item}
use Rattle.go_package_steady.specs.Rising.{is_inner}

abbrev pub Inner : Kind → Type 0
Inner kind.FunctionDeclaration = ⊥
Inner kind.File = ⊥
Inner k = Unit {0}

abbrev pub AllInner : Rule → Type 0
AllInner (End ws) = Unit {0}
AllInner (Then ws c r) = (is_inner c ≡ true) × AllInner r
AllInner (Maybe ws c r) = (is_inner c ≡ true) × AllInner r
AllInner (Unless ws c us r) = (is_inner c ≡ true) × AllInner r
AllInner (Many ws l) = is_inner (item l) ≡ true

no_function : (c : Category) → is_inner c ≡ true → within c kind.FunctionDeclaration ≡ false
no_function category.File e = absurd cc
no_function category.Declaration e = absurd cc
no_function (category.Expression level.Either p) e = refl
no_function (category.Expression level.Both p) e = refl
no_function (category.Expression level.Comparison p) e = refl
no_function (category.Expression level.Sum p) e = refl
no_function (category.Expression level.Product p) e = refl
no_function (category.Expression level.Unary p) e = refl
no_function (category.Expression level.Primary p) e = refl
no_function (category.LiteralType place.Free) e = refl
no_function (category.LiteralType place.Header) e = refl
no_function c e = refl

no_file : (c : Category) → is_inner c ≡ true → within c kind.File ≡ false
no_file category.File e = absurd cc
no_file category.Declaration e = absurd cc
no_file (category.Expression level.Either p) e = refl
no_file (category.Expression level.Both p) e = refl
no_file (category.Expression level.Comparison p) e = refl
no_file (category.Expression level.Sum p) e = refl
no_file (category.Expression level.Product p) e = refl
no_file (category.Expression level.Unary p) e = refl
no_file (category.Expression level.Primary p) e = refl
no_file (category.LiteralType place.Free) e = refl
no_file (category.LiteralType place.Header) e = refl
no_file c e = refl

never : (b : Bool) → b ≡ true → b ≡ false → ⊥
never true t f = cc
never false t f = cc

pub kind_inner : (c : Category) (k : Kind) → is_inner c ≡ true → IsTrue (within c k) → Inner k
kind_inner c kind.FunctionDeclaration e w = never (within c kind.FunctionDeclaration) w (no_function c e)
kind_inner c kind.File e w = never (within c kind.File) w (no_file c e)
kind_inner c k e w = tt

pub rule_inner : (p : Place) (k : Kind) → Inner k → AllInner (rule p k)
rule_inner p kind.FunctionDeclaration n = absurd n
rule_inner p kind.File n = absurd n
rule_inner p kind.Imports n = (refl, refl)
rule_inner p kind.Import n = (refl, tt)
rule_inner p kind.ImportGroup n = refl
rule_inner p (kind.Declaration s) n = (refl, tt)
rule_inner p (kind.Group s) n = refl
rule_inner p (kind.Specification declaring.Constant) n = (refl, (refl, tt))
rule_inner p (kind.Specification declaring.Type) n = (refl, tt)
rule_inner p (kind.Specification declaring.Variable) n = (refl, (refl, tt))
rule_inner p kind.NameList n = (refl, refl)
rule_inner p kind.TypedValues n = (refl, (refl, tt))
rule_inner p kind.Values n = (refl, tt)
rule_inner p kind.Signature n = (refl, (refl, tt))
rule_inner p kind.Parameters n = refl
rule_inner p kind.Parameter n = (refl, (refl, tt))
rule_inner p kind.Results n = refl
rule_inner p kind.ParenthesizedType n = (refl, tt)
rule_inner p kind.SequenceType n = (refl, (refl, tt))
rule_inner p kind.FunctionType n = (refl, tt)
rule_inner p kind.StructType n = refl
rule_inner p kind.Fields n = (refl, (refl, tt))
rule_inner p kind.Parenthesized n = (refl, tt)
rule_inner p (kind.Unary s) n = (refl, tt)
rule_inner p (kind.Binary o) n = (refl, (refl, tt))
rule_inner p kind.Selector n = (refl, tt)
rule_inner p kind.Bracketed n = (refl, (refl, tt))
rule_inner p kind.Bounds n = (refl, tt)
rule_inner p kind.BoundsFrom n = (refl, (refl, tt))
rule_inner p kind.Call n = (refl, refl)
rule_inner p kind.Composite n = (refl, refl)
rule_inner p kind.LiteralValue n = refl
rule_inner p kind.Keyed n = (refl, (refl, tt))
rule_inner p kind.ExpressionList n = (refl, refl)
rule_inner p kind.Block n = refl
rule_inner p kind.Return n = (refl, tt)
rule_inner p kind.ExpressionStatement n = (refl, tt)
rule_inner p (kind.StepStatement s) n = (refl, tt)
rule_inner p kind.Targets n = (refl, tt)
rule_inner p kind.Assignment n = (refl, (refl, tt))
rule_inner p (kind.OperatorAssignment o) n = (refl, (refl, tt))
rule_inner p kind.NewNames n = (refl, tt)
rule_inner p kind.Define n = (refl, (refl, tt))
rule_inner p kind.If n = (refl, (refl, (refl, tt)))
rule_inner p kind.Else n = (refl, tt)
rule_inner p kind.LateCondition n = (refl, tt)
rule_inner p kind.InitializedCondition n = (refl, (refl, tt))
rule_inner p kind.Switch n = (refl, refl)
rule_inner p kind.LateTag n = (refl, tt)
rule_inner p kind.InitializedTag n = (refl, (refl, tt))
rule_inner p kind.Case n = (refl, refl)
rule_inner p kind.Default n = refl
rule_inner p kind.For n = (refl, (refl, tt))
rule_inner p kind.ForClause n = (refl, (refl, tt))
rule_inner p kind.InitializedForClause n = (refl, (refl, (refl, tt)))
rule_inner p kind.Range n = (refl, tt)
rule_inner p kind.AssigningRange n = (refl, (refl, tt))
rule_inner p kind.DefiningRange n = (refl, (refl, tt))
rule_inner p k n = tt
