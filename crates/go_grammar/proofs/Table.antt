-- What the tables of the reader have to say, they do: computed, a category at a time.
use Rattle.std.proofs.Common.{◌≡◌, true, refl}
use Rattle.go_grammar.specs.declared.kind.Category.{Category}
use Rattle.go_grammar.specs.declared.kind.Category.TheVariants as category
use Rattle.go_grammar.specs.declared.kind.Sort.TheVariants as sort
use Rattle.go_grammar.specs.declared.kind.Level.TheVariants as level
use Rattle.go_grammar.specs.declared.kind.Place.TheVariants as place
use Rattle.go_grammar.proofs.Check.{category_checked}

checked_0 : category_checked (category.File) ≡ true
checked_0 = refl

checked_1 : category_checked (category.Imports) ≡ true
checked_1 = refl

checked_2 : category_checked (category.Import) ≡ true
checked_2 = refl

checked_3 : category_checked (category.ImportBody) ≡ true
checked_3 = refl

checked_4 : category_checked (category.ImportPath) ≡ true
checked_4 = refl

checked_5 : category_checked (category.Declaration) ≡ true
checked_5 = refl

checked_6 : category_checked (category.DeclarationBody sort.Constant) ≡ true
checked_6 = refl

checked_7 : category_checked (category.DeclarationBody sort.Type) ≡ true
checked_7 = refl

checked_8 : category_checked (category.DeclarationBody sort.Variable) ≡ true
checked_8 = refl

checked_9 : category_checked (category.Specification sort.Constant) ≡ true
checked_9 = refl

checked_10 : category_checked (category.Specification sort.Type) ≡ true
checked_10 = refl

checked_11 : category_checked (category.Specification sort.Variable) ≡ true
checked_11 = refl

checked_12 : category_checked (category.NameList) ≡ true
checked_12 = refl

checked_13 : category_checked (category.DeclaredName) ≡ true
checked_13 = refl

checked_14 : category_checked (category.ConstantRest) ≡ true
checked_14 = refl

checked_15 : category_checked (category.VariableRest) ≡ true
checked_15 = refl

checked_16 : category_checked (category.Signature) ≡ true
checked_16 = refl

checked_17 : category_checked (category.Parameters) ≡ true
checked_17 = refl

checked_18 : category_checked (category.Entry) ≡ true
checked_18 = refl

checked_19 : category_checked (category.Result) ≡ true
checked_19 = refl

checked_20 : category_checked (category.Type) ≡ true
checked_20 = refl

checked_21 : category_checked (category.Fields) ≡ true
checked_21 = refl

checked_22 : category_checked (category.Expression level.Either place.Free) ≡ true
checked_22 = refl

checked_23 : category_checked (category.Expression level.Either place.Header) ≡ true
checked_23 = refl

checked_24 : category_checked (category.Expression level.Both place.Free) ≡ true
checked_24 = refl

checked_25 : category_checked (category.Expression level.Both place.Header) ≡ true
checked_25 = refl

checked_26 : category_checked (category.Expression level.Comparison place.Free) ≡ true
checked_26 = refl

checked_27 : category_checked (category.Expression level.Comparison place.Header) ≡ true
checked_27 = refl

checked_28 : category_checked (category.Expression level.Sum place.Free) ≡ true
checked_28 = refl

checked_29 : category_checked (category.Expression level.Sum place.Header) ≡ true
checked_29 = refl

checked_30 : category_checked (category.Expression level.Product place.Free) ≡ true
checked_30 = refl

checked_31 : category_checked (category.Expression level.Product place.Header) ≡ true
checked_31 = refl

checked_32 : category_checked (category.Expression level.Unary place.Free) ≡ true
checked_32 = refl

checked_33 : category_checked (category.Expression level.Unary place.Header) ≡ true
checked_33 = refl

checked_34 : category_checked (category.Expression level.Primary place.Free) ≡ true
checked_34 = refl

checked_35 : category_checked (category.Expression level.Primary place.Header) ≡ true
checked_35 = refl

checked_36 : category_checked (category.LiteralType place.Free) ≡ true
checked_36 = refl

checked_37 : category_checked (category.LiteralType place.Header) ≡ true
checked_37 = refl

checked_38 : category_checked (category.Name) ≡ true
checked_38 = refl

checked_39 : category_checked (category.Bracket) ≡ true
checked_39 = refl

checked_40 : category_checked (category.Element) ≡ true
checked_40 = refl

checked_41 : category_checked (category.Value) ≡ true
checked_41 = refl

checked_42 : category_checked (category.ExpressionList place.Free) ≡ true
checked_42 = refl

checked_43 : category_checked (category.ExpressionList place.Header) ≡ true
checked_43 = refl

checked_44 : category_checked (category.LeftList place.Free) ≡ true
checked_44 = refl

checked_45 : category_checked (category.LeftList place.Header) ≡ true
checked_45 = refl

checked_46 : category_checked (category.Targets place.Free) ≡ true
checked_46 = refl

checked_47 : category_checked (category.Targets place.Header) ≡ true
checked_47 = refl

checked_48 : category_checked (category.NewNames place.Free) ≡ true
checked_48 = refl

checked_49 : category_checked (category.NewNames place.Header) ≡ true
checked_49 = refl

checked_50 : category_checked (category.Block) ≡ true
checked_50 = refl

checked_51 : category_checked (category.Statement) ≡ true
checked_51 = refl

checked_52 : category_checked (category.Simple) ≡ true
checked_52 = refl

checked_53 : category_checked (category.Post) ≡ true
checked_53 = refl

checked_54 : category_checked (category.Else) ≡ true
checked_54 = refl

checked_55 : category_checked (category.Branch) ≡ true
checked_55 = refl

checked_56 : category_checked (category.IfHeader) ≡ true
checked_56 = refl

checked_57 : category_checked (category.SwitchHeader) ≡ true
checked_57 = refl

checked_58 : category_checked (category.ForHeader) ≡ true
checked_58 = refl

checked_59 : category_checked (category.Clause) ≡ true
checked_59 = refl

pub table : (c : Category) → category_checked c ≡ true
table (category.File) = checked_0
table (category.Imports) = checked_1
table (category.Import) = checked_2
table (category.ImportBody) = checked_3
table (category.ImportPath) = checked_4
table (category.Declaration) = checked_5
table (category.DeclarationBody sort.Constant) = checked_6
table (category.DeclarationBody sort.Type) = checked_7
table (category.DeclarationBody sort.Variable) = checked_8
table (category.Specification sort.Constant) = checked_9
table (category.Specification sort.Type) = checked_10
table (category.Specification sort.Variable) = checked_11
table (category.NameList) = checked_12
table (category.DeclaredName) = checked_13
table (category.ConstantRest) = checked_14
table (category.VariableRest) = checked_15
table (category.Signature) = checked_16
table (category.Parameters) = checked_17
table (category.Entry) = checked_18
table (category.Result) = checked_19
table (category.Type) = checked_20
table (category.Fields) = checked_21
table (category.Expression level.Either place.Free) = checked_22
table (category.Expression level.Either place.Header) = checked_23
table (category.Expression level.Both place.Free) = checked_24
table (category.Expression level.Both place.Header) = checked_25
table (category.Expression level.Comparison place.Free) = checked_26
table (category.Expression level.Comparison place.Header) = checked_27
table (category.Expression level.Sum place.Free) = checked_28
table (category.Expression level.Sum place.Header) = checked_29
table (category.Expression level.Product place.Free) = checked_30
table (category.Expression level.Product place.Header) = checked_31
table (category.Expression level.Unary place.Free) = checked_32
table (category.Expression level.Unary place.Header) = checked_33
table (category.Expression level.Primary place.Free) = checked_34
table (category.Expression level.Primary place.Header) = checked_35
table (category.LiteralType place.Free) = checked_36
table (category.LiteralType place.Header) = checked_37
table (category.Name) = checked_38
table (category.Bracket) = checked_39
table (category.Element) = checked_40
table (category.Value) = checked_41
table (category.ExpressionList place.Free) = checked_42
table (category.ExpressionList place.Header) = checked_43
table (category.LeftList place.Free) = checked_44
table (category.LeftList place.Header) = checked_45
table (category.Targets place.Free) = checked_46
table (category.Targets place.Header) = checked_47
table (category.NewNames place.Free) = checked_48
table (category.NewNames place.Header) = checked_49
table (category.Block) = checked_50
table (category.Statement) = checked_51
table (category.Simple) = checked_52
table (category.Post) = checked_53
table (category.Else) = checked_54
table (category.Branch) = checked_55
table (category.IfHeader) = checked_56
table (category.SwitchHeader) = checked_57
table (category.ForHeader) = checked_58
table (category.Clause) = checked_59
