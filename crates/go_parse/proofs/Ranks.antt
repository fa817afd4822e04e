-- What the tables say of the parser's course: each node that is opened begins with a word, and a finished node goes on without
-- a token only a few times. Computed over all categories, kinds and tokens.
use Rattle.std.proofs.Common.{◌≡◌, ℕ, ◌<◌, ◌≤◌, ◌⊎◌, inl, inr, Bool, true, false, Option, Some, None, refl, subst, arith}
use Rattle.std.specs.Prelude.{◌||◌, nat_lt}
use Rattle.go_tokens.specs.declared.token.TokenKind.{TokenKind}
use Rattle.go_grammar.specs.declared.kind.Kind.{Kind}
use Rattle.go_grammar.specs.declared.kind.Kind.TheVariants as kind
use Rattle.go_grammar.specs.declared.kind.Category.{Category}
use Rattle.go_grammar.specs.declared.kind.Category.TheVariants as category
use Rattle.go_grammar.specs.declared.kind.Sort.TheVariants as sort
use Rattle.go_grammar.specs.declared.kind.Level.TheVariants as level
use Rattle.go_grammar.specs.declared.kind.Place.TheVariants as place
use Rattle.go_grammar.specs.Categories.{place_of}
use Rattle.go_grammar.specs.Grammar.{rule}
use Rattle.go_grammar.specs.Reader.{opens_before, continues, after_first}
use Rattle.go_grammar.proofs.Public.{all, every, every_at, kinds, kinds_at}
use Rattle.go_parse.specs.Engine.{is_worded, is_solid, rank}

abbrev opened_worded : Category → Option Kind → Bool
opened_worded c None = true
opened_worded c (Some k) = is_worded (rule (place_of c) k)

abbrev opens_of : Category → Option TokenKind → Bool
opens_of c w = opened_worded c (opens_before c w)

abbrev join_ranked : Category → Kind → Option Kind → Bool
join_ranked c k None = true
join_ranked c k (Some l) = nat_lt (rank l) (rank k) || is_solid (after_first (rule (place_of c) l))

abbrev joins_of : Category → Kind → Option TokenKind → Bool
joins_of c k w = join_ranked c k (continues c k w)

abbrev joins_at : Category → Kind → Bool
joins_at c k = every (joins_of c k)

opens_0 : every (opens_of (category.File)) ≡ true
opens_0 = refl

joins_0 : all (joins_at (category.File)) kinds ≡ true
joins_0 = refl

opens_1 : every (opens_of (category.Imports)) ≡ true
opens_1 = refl

joins_1 : all (joins_at (category.Imports)) kinds ≡ true
joins_1 = refl

opens_2 : every (opens_of (category.Import)) ≡ true
opens_2 = refl

joins_2 : all (joins_at (category.Import)) kinds ≡ true
joins_2 = refl

opens_3 : every (opens_of (category.ImportBody)) ≡ true
opens_3 = refl

joins_3 : all (joins_at (category.ImportBody)) kinds ≡ true
joins_3 = refl

opens_4 : every (opens_of (category.ImportPath)) ≡ true
opens_4 = refl

joins_4 : all (joins_at (category.ImportPath)) kinds ≡ true
joins_4 = refl

opens_5 : every (opens_of (category.Declaration)) ≡ true
opens_5 = refl

joins_5 : all (joins_at (category.Declaration)) kinds ≡ true
joins_5 = refl

opens_6 : every (opens_of (category.DeclarationBody sort.Constant)) ≡ true
opens_6 = refl

joins_6 : all (joins_at (category.DeclarationBody sort.Constant)) kinds ≡ true
joins_6 = refl

opens_7 : every (opens_of (category.DeclarationBody sort.Type)) ≡ true
opens_7 = refl

joins_7 : all (joins_at (category.DeclarationBody sort.Type)) kinds ≡ true
joins_7 = refl

opens_8 : every (opens_of (category.DeclarationBody sort.Variable)) ≡ true
opens_8 = refl

joins_8 : all (joins_at (category.DeclarationBody sort.Variable)) kinds ≡ true
joins_8 = refl

opens_9 : every (opens_of (category.Specification sort.Constant)) ≡ true
opens_9 = refl

joins_9 : all (joins_at (category.Specification sort.Constant)) kinds ≡ true
joins_9 = refl

opens_10 : every (opens_of (category.Specification sort.Type)) ≡ true
opens_10 = refl

joins_10 : all (joins_at (category.Specification sort.Type)) kinds ≡ true
joins_10 = refl

opens_11 : every (opens_of (category.Specification sort.Variable)) ≡ true
opens_11 = refl

joins_11 : all (joins_at (category.Specification sort.Variable)) kinds ≡ true
joins_11 = refl

opens_12 : every (opens_of (category.NameList)) ≡ true
opens_12 = refl

joins_12 : all (joins_at (category.NameList)) kinds ≡ true
joins_12 = refl

opens_13 : every (opens_of (category.DeclaredName)) ≡ true
opens_13 = refl

joins_13 : all (joins_at (category.DeclaredName)) kinds ≡ true
joins_13 = refl

opens_14 : every (opens_of (category.ConstantRest)) ≡ true
opens_14 = refl

joins_14 : all (joins_at (category.ConstantRest)) kinds ≡ true
joins_14 = refl

opens_15 : every (opens_of (category.VariableRest)) ≡ true
opens_15 = refl

joins_15 : all (joins_at (category.VariableRest)) kinds ≡ true
joins_15 = refl

opens_16 : every (opens_of (category.Signature)) ≡ true
opens_16 = refl

joins_16 : all (joins_at (category.Signature)) kinds ≡ true
joins_16 = refl

opens_17 : every (opens_of (category.Parameters)) ≡ true
opens_17 = refl

joins_17 : all (joins_at (category.Parameters)) kinds ≡ true
joins_17 = refl

opens_18 : every (opens_of (category.Entry)) ≡ true
opens_18 = refl

joins_18 : all (joins_at (category.Entry)) kinds ≡ true
joins_18 = refl

opens_19 : every (opens_of (category.Result)) ≡ true
opens_19 = refl

joins_19 : all (joins_at (category.Result)) kinds ≡ true
joins_19 = refl

opens_20 : every (opens_of (category.Type)) ≡ true
opens_20 = refl

joins_20 : all (joins_at (category.Type)) kinds ≡ true
joins_20 = refl

opens_21 : every (opens_of (category.Fields)) ≡ true
opens_21 = refl

joins_21 : all (joins_at (category.Fields)) kinds ≡ true
joins_21 = refl

opens_22 : every (opens_of (category.Expression level.Either place.Free)) ≡ true
opens_22 = refl

joins_22 : all (joins_at (category.Expression level.Either place.Free)) kinds ≡ true
joins_22 = refl

opens_23 : every (opens_of (category.Expression level.Either place.Header)) ≡ true
opens_23 = refl

joins_23 : all (joins_at (category.Expression level.Either place.Header)) kinds ≡ true
joins_23 = refl

opens_24 : every (opens_of (category.Expression level.Both place.Free)) ≡ true
opens_24 = refl

joins_24 : all (joins_at (category.Expression level.Both place.Free)) kinds ≡ true
joins_24 = refl

opens_25 : every (opens_of (category.Expression level.Both place.Header)) ≡ true
opens_25 = refl

joins_25 : all (joins_at (category.Expression level.Both place.Header)) kinds ≡ true
joins_25 = refl

opens_26 : every (opens_of (category.Expression level.Comparison place.Free)) ≡ true
opens_26 = refl

joins_26 : all (joins_at (category.Expression level.Comparison place.Free)) kinds ≡ true
joins_26 = refl

opens_27 : every (opens_of (category.Expression level.Comparison place.Header)) ≡ true
opens_27 = refl

joins_27 : all (joins_at (category.Expression level.Comparison place.Header)) kinds ≡ true
joins_27 = refl

opens_28 : every (opens_of (category.Expression level.Sum place.Free)) ≡ true
opens_28 = refl

joins_28 : all (joins_at (category.Expression level.Sum place.Free)) kinds ≡ true
joins_28 = refl

opens_29 : every (opens_of (category.Expression level.Sum place.Header)) ≡ true
opens_29 = refl

joins_29 : all (joins_at (category.Expression level.Sum place.Header)) kinds ≡ true
joins_29 = refl

opens_30 : every (opens_of (category.Expression level.Product place.Free)) ≡ true
opens_30 = refl

joins_30 : all (joins_at (category.Expression level.Product place.Free)) kinds ≡ true
joins_30 = refl

opens_31 : every (opens_of (category.Expression level.Product place.Header)) ≡ true
opens_31 = refl

joins_31 : all (joins_at (category.Expression level.Product place.Header)) kinds ≡ true
joins_31 = refl

opens_32 : every (opens_of (category.Expression level.Unary place.Free)) ≡ true
opens_32 = refl

joins_32 : all (joins_at (category.Expression level.Unary place.Free)) kinds ≡ true
joins_32 = refl

opens_33 : every (opens_of (category.Expression level.Unary place.Header)) ≡ true
opens_33 = refl

joins_33 : all (joins_at (category.Expression level.Unary place.Header)) kinds ≡ true
joins_33 = refl

opens_34 : every (opens_of (category.Expression level.Primary place.Free)) ≡ true
opens_34 = refl

joins_34 : all (joins_at (category.Expression level.Primary place.Free)) kinds ≡ true
joins_34 = refl

opens_35 : every (opens_of (category.Expression level.Primary place.Header)) ≡ true
opens_35 = refl

joins_35 : all (joins_at (category.Expression level.Primary place.Header)) kinds ≡ true
joins_35 = refl

opens_36 : every (opens_of (category.LiteralType place.Free)) ≡ true
opens_36 = refl

joins_36 : all (joins_at (category.LiteralType place.Free)) kinds ≡ true
joins_36 = refl

opens_37 : every (opens_of (category.LiteralType place.Header)) ≡ true
opens_37 = refl

joins_37 : all (joins_at (category.LiteralType place.Header)) kinds ≡ true
joins_37 = refl

opens_38 : every (opens_of (category.Name)) ≡ true
opens_38 = refl

joins_38 : all (joins_at (category.Name)) kinds ≡ true
joins_38 = refl

opens_39 : every (opens_of (category.Bracket)) ≡ true
opens_39 = refl

joins_39 : all (joins_at (category.Bracket)) kinds ≡ true
joins_39 = refl

opens_40 : every (opens_of (category.Element)) ≡ true
opens_40 = refl

joins_40 : all (joins_at (category.Element)) kinds ≡ true
joins_40 = refl

opens_41 : every (opens_of (category.Value)) ≡ true
opens_41 = refl

joins_41 : all (joins_at (category.Value)) kinds ≡ true
joins_41 = refl

opens_42 : every (opens_of (category.ExpressionList place.Free)) ≡ true
opens_42 = refl

joins_42 : all (joins_at (category.ExpressionList place.Free)) kinds ≡ true
joins_42 = refl

opens_43 : every (opens_of (category.ExpressionList place.Header)) ≡ true
opens_43 = refl

joins_43 : all (joins_at (category.ExpressionList place.Header)) kinds ≡ true
joins_43 = refl

opens_44 : every (opens_of (category.LeftList place.Free)) ≡ true
opens_44 = refl

joins_44 : all (joins_at (category.LeftList place.Free)) kinds ≡ true
joins_44 = refl

opens_45 : every (opens_of (category.LeftList place.Header)) ≡ true
opens_45 = refl

joins_45 : all (joins_at (category.LeftList place.Header)) kinds ≡ true
joins_45 = refl

opens_46 : every (opens_of (category.Targets place.Free)) ≡ true
opens_46 = refl

joins_46 : all (joins_at (category.Targets place.Free)) kinds ≡ true
joins_46 = refl

opens_47 : every (opens_of (category.Targets place.Header)) ≡ true
opens_47 = refl

joins_47 : all (joins_at (category.Targets place.Header)) kinds ≡ true
joins_47 = refl

opens_48 : every (opens_of (category.NewNames place.Free)) ≡ true
opens_48 = refl

joins_48 : all (joins_at (category.NewNames place.Free)) kinds ≡ true
joins_48 = refl

opens_49 : every (opens_of (category.NewNames place.Header)) ≡ true
opens_49 = refl

joins_49 : all (joins_at (category.NewNames place.Header)) kinds ≡ true
joins_49 = refl

opens_50 : every (opens_of (category.Block)) ≡ true
opens_50 = refl

joins_50 : all (joins_at (category.Block)) kinds ≡ true
joins_50 = refl

opens_51 : every (opens_of (category.Statement)) ≡ true
opens_51 = refl

joins_51 : all (joins_at (category.Statement)) kinds ≡ true
joins_51 = refl

opens_52 : every (opens_of (category.Simple)) ≡ true
opens_52 = refl

joins_52 : all (joins_at (category.Simple)) kinds ≡ true
joins_52 = refl

opens_53 : every (opens_of (category.Post)) ≡ true
opens_53 = refl

joins_53 : all (joins_at (category.Post)) kinds ≡ true
joins_53 = refl

opens_54 : every (opens_of (category.Else)) ≡ true
opens_54 = refl

joins_54 : all (joins_at (category.Else)) kinds ≡ true
joins_54 = refl

opens_55 : every (opens_of (category.Branch)) ≡ true
opens_55 = refl

joins_55 : all (joins_at (category.Branch)) kinds ≡ true
joins_55 = refl

opens_56 : every (opens_of (category.IfHeader)) ≡ true
opens_56 = refl

joins_56 : all (joins_at (category.IfHeader)) kinds ≡ true
joins_56 = refl

opens_57 : every (opens_of (category.SwitchHeader)) ≡ true
opens_57 = refl

joins_57 : all (joins_at (category.SwitchHeader)) kinds ≡ true
joins_57 = refl

opens_58 : every (opens_of (category.ForHeader)) ≡ true
opens_58 = refl

joins_58 : all (joins_at (category.ForHeader)) kinds ≡ true
joins_58 = refl

opens_59 : every (opens_of (category.Clause)) ≡ true
opens_59 = refl

joins_59 : all (joins_at (category.Clause)) kinds ≡ true
joins_59 = refl

opens_all : (c : Category) → every (opens_of c) ≡ true
opens_all (category.File) = opens_0
opens_all (category.Imports) = opens_1
opens_all (category.Import) = opens_2
opens_all (category.ImportBody) = opens_3
opens_all (category.ImportPath) = opens_4
opens_all (category.Declaration) = opens_5
opens_all (category.DeclarationBody sort.Constant) = opens_6
opens_all (category.DeclarationBody sort.Type) = opens_7
opens_all (category.DeclarationBody sort.Variable) = opens_8
opens_all (category.Specification sort.Constant) = opens_9
opens_all (category.Specification sort.Type) = opens_10
opens_all (category.Specification sort.Variable) = opens_11
opens_all (category.NameList) = opens_12
opens_all (category.DeclaredName) = opens_13
opens_all (category.ConstantRest) = opens_14
opens_all (category.VariableRest) = opens_15
opens_all (category.Signature) = opens_16
opens_all (category.Parameters) = opens_17
opens_all (category.Entry) = opens_18
opens_all (category.Result) = opens_19
opens_all (category.Type) = opens_20
opens_all (category.Fields) = opens_21
opens_all (category.Expression level.Either place.Free) = opens_22
opens_all (category.Expression level.Either place.Header) = opens_23
opens_all (category.Expression level.Both place.Free) = opens_24
opens_all (category.Expression level.Both place.Header) = opens_25
opens_all (category.Expression level.Comparison place.Free) = opens_26
opens_all (category.Expression level.Comparison place.Header) = opens_27
opens_all (category.Expression level.Sum place.Free) = opens_28
opens_all (category.Expression level.Sum place.Header) = opens_29
opens_all (category.Expression level.Product place.Free) = opens_30
opens_all (category.Expression level.Product place.Header) = opens_31
opens_all (category.Expression level.Unary place.Free) = opens_32
opens_all (category.Expression level.Unary place.Header) = opens_33
opens_all (category.Expression level.Primary place.Free) = opens_34
opens_all (category.Expression level.Primary place.Header) = opens_35
opens_all (category.LiteralType place.Free) = opens_36
opens_all (category.LiteralType place.Header) = opens_37
opens_all (category.Name) = opens_38
opens_all (category.Bracket) = opens_39
opens_all (category.Element) = opens_40
opens_all (category.Value) = opens_41
opens_all (category.ExpressionList place.Free) = opens_42
opens_all (category.ExpressionList place.Header) = opens_43
opens_all (category.LeftList place.Free) = opens_44
opens_all (category.LeftList place.Header) = opens_45
opens_all (category.Targets place.Free) = opens_46
opens_all (category.Targets place.Header) = opens_47
opens_all (category.NewNames place.Free) = opens_48
opens_all (category.NewNames place.Header) = opens_49
opens_all (category.Block) = opens_50
opens_all (category.Statement) = opens_51
opens_all (category.Simple) = opens_52
opens_all (category.Post) = opens_53
opens_all (category.Else) = opens_54
opens_all (category.Branch) = opens_55
opens_all (category.IfHeader) = opens_56
opens_all (category.SwitchHeader) = opens_57
opens_all (category.ForHeader) = opens_58
opens_all (category.Clause) = opens_59

joins_all : (c : Category) → all (joins_at c) kinds ≡ true
joins_all (category.File) = joins_0
joins_all (category.Imports) = joins_1
joins_all (category.Import) = joins_2
joins_all (category.ImportBody) = joins_3
joins_all (category.ImportPath) = joins_4
joins_all (category.Declaration) = joins_5
joins_all (category.DeclarationBody sort.Constant) = joins_6
joins_all (category.DeclarationBody sort.Type) = joins_7
joins_all (category.DeclarationBody sort.Variable) = joins_8
joins_all (category.Specification sort.Constant) = joins_9
joins_all (category.Specification sort.Type) = joins_10
joins_all (category.Specification sort.Variable) = joins_11
joins_all (category.NameList) = joins_12
joins_all (category.DeclaredName) = joins_13
joins_all (category.ConstantRest) = joins_14
joins_all (category.VariableRest) = joins_15
joins_all (category.Signature) = joins_16
joins_all (category.Parameters) = joins_17
joins_all (category.Entry) = joins_18
joins_all (category.Result) = joins_19
joins_all (category.Type) = joins_20
joins_all (category.Fields) = joins_21
joins_all (category.Expression level.Either place.Free) = joins_22
joins_all (category.Expression level.Either place.Header) = joins_23
joins_all (category.Expression level.Both place.Free) = joins_24
joins_all (category.Expression level.Both place.Header) = joins_25
joins_all (category.Expression level.Comparison place.Free) = joins_26
joins_all (category.Expression level.Comparison place.Header) = joins_27
joins_all (category.Expression level.Sum place.Free) = joins_28
joins_all (category.Expression level.Sum place.Header) = joins_29
joins_all (category.Expression level.Product place.Free) = joins_30
joins_all (category.Expression level.Product place.Header) = joins_31
joins_all (category.Expression level.Unary place.Free) = joins_32
joins_all (category.Expression level.Unary place.Header) = joins_33
joins_all (category.Expression level.Primary place.Free) = joins_34
joins_all (category.Expression level.Primary place.Header) = joins_35
joins_all (category.LiteralType place.Free) = joins_36
joins_all (category.LiteralType place.Header) = joins_37
joins_all (category.Name) = joins_38
joins_all (category.Bracket) = joins_39
joins_all (category.Element) = joins_40
joins_all (category.Value) = joins_41
joins_all (category.ExpressionList place.Free) = joins_42
joins_all (category.ExpressionList place.Header) = joins_43
joins_all (category.LeftList place.Free) = joins_44
joins_all (category.LeftList place.Header) = joins_45
joins_all (category.Targets place.Free) = joins_46
joins_all (category.Targets place.Header) = joins_47
joins_all (category.NewNames place.Free) = joins_48
joins_all (category.NewNames place.Header) = joins_49
joins_all (category.Block) = joins_50
joins_all (category.Statement) = joins_51
joins_all (category.Simple) = joins_52
joins_all (category.Post) = joins_53
joins_all (category.Else) = joins_54
joins_all (category.Branch) = joins_55
joins_all (category.IfHeader) = joins_56
joins_all (category.SwitchHeader) = joins_57
joins_all (category.ForHeader) = joins_58
joins_all (category.Clause) = joins_59

worded_by : (c : Category) (o : Option Kind) (k : Kind) → o ≡ Some k → opened_worded c o ≡ true → is_worded (rule (place_of c) k) ≡ true
worded_by c None k e h = cc
worded_by c (Some l) k e h = let same : l ≡ k = cc in subst (λ z. is_worded (rule (place_of c) z) ≡ true) same h

-- a node that is opened begins with a word
pub opened_words : (c : Category) (w : Option TokenKind) (k : Kind) → opens_before c w ≡ Some k → is_worded (rule (place_of c) k) ≡ true
opened_words c w k e = worded_by c (opens_before c w) k e (every_at (opens_of c) (opens_all c) w)

or_cases : (a b : Bool) → a || b ≡ true → (a ≡ true) ⊎ (b ≡ true)
or_cases true b h = inl refl
or_cases false b h = inr h

lt_of : (m n : ℕ) → nat_lt m n ≡ true → m < n
lt_of m n h = grind arith

ranked_by : (c : Category) (k : Kind) (o : Option Kind) (l : Kind) → o ≡ Some l → join_ranked c k o ≡ true → (rank l < rank k) ⊎ (is_solid (after_first (rule (place_of c) l)) ≡ true)
ranked_by c k None l e h = cc
ranked_by c k (Some x) l e h =
    let same : x ≡ l = cc in
    let h' : nat_lt (rank l) (rank k) || is_solid (after_first (rule (place_of c) l)) ≡ true = subst (λ z. nat_lt (rank z) (rank k) || is_solid (after_first (rule (place_of c) z)) ≡ true) same h in
    elim (or_cases (nat_lt (rank l) (rank k)) (is_solid (after_first (rule (place_of c) l))) h') [
      | inl a ↦ inl (lt_of (rank l) (rank k) a)
      | inr b ↦ inr b
    ]

-- a finished node goes on with a token, or to a lower rank
pub joined_ranks : (c : Category) (k l : Kind) (w : Option TokenKind) → continues c k w ≡ Some l → (rank l < rank k) ⊎ (is_solid (after_first (rule (place_of c) l)) ≡ true)
joined_ranks c k l w e = ranked_by c k (continues c k w) l e (every_at (joins_of c k) (kinds_at (joins_at c) (joins_all c) k) w)

pub rank_low : (k : Kind) → rank k ≤ 3
rank_low kind.ExpressionStatement = omega arith
rank_low (kind.Specification s) = omega arith
rank_low kind.Signature = omega arith
rank_low kind.ExpressionList = omega arith
rank_low kind.NameList = omega arith
rank_low k = omega arith
