-- Worked packages: for each file its text, where its tokens stand, its tree, and what its names mean.
--
-- The tokens of names that mean something stand with their objects: those of the package and of the one function are numbered
-- in the order of their declarations.
use Rattle.std.specs.Prelude.{◌≡◌, ℕ, ◌+◌, suc, List, [], ◌∷◌, map, length, codes, Option, Some, None}
use Rattle.std.proofs.Math.Nat.{le-add_right}
use Rattle.go_base.specs.declared.Span.{Span}
use Rattle.go_tokens.specs.declared.token.Token.{Token}
use Rattle.go_tokens.specs.declared.token.TokenKind.TheVariants as token
use Rattle.go_tokens.specs.Tokens.{TokenList}
use Rattle.go_grammar.specs.declared.kind.Kind.TheVariants as kind
use Rattle.go_grammar.specs.declared.kind.Sort.TheVariants as sort
use Rattle.go_grammar.specs.declared.kind.Step.TheVariants as step
use Rattle.go_grammar.specs.declared.kind.Operator.TheVariants as operator
use Rattle.go_grammar.specs.declared.kind.Comparison.TheVariants as comparison
use Rattle.go_grammar.specs.Trees.{Tree, node, none, more, skip, last}
use Rattle.go_tree.specs.declared.object.Object.{Object}
use Rattle.go_tree.specs.declared.object.Object.TheVariants as object
use Rattle.go_tree.specs.declared.object.Predeclared.TheVariants as predeclared
use Rattle.go_tree.specs.Contexts.{file_context}
use Rattle.go_tree.specs.Events.{events}
use Rattle.go_tree.specs.Units as names
use Rattle.go_tree.specs.Objects.{objects}

-- a token of n bytes; what kind it is of doesn't matter here, since the tree is given
abbrev pub token_at : ℕ × ℕ → Token
token_at p = record { kind = token.Identifier; span = record { file = 0; start = p.0; end = p.0 + p.1; ordered = le-add_right p.0 p.1 } }

-- the file with this text, tokens from these places on and so long, and this tree
abbrev pub file_of : List ℕ → List (ℕ × ℕ) → Tree → names.Unit
file_of text ps t = record { tokens = record { file = 0; text = text; tokens = map token_at ps; comments = [] }; events = events (file_context (last t)) t }

-- the names of a file that mean something, by their tokens
abbrev pub meant : ℕ → List (Option Object) → List (ℕ × Object)
meant n [] = []
meant n (None ∷ os) = meant (suc n) os
meant n (Some o ∷ os) = (n, o) ∷ meant (suc n) os

-- what the names of each file of a package mean
abbrev pub names_mean : List names.Unit → List (List (ℕ × Object))
names_mean us = map (meant 0) (objects us)

abbrev pub file_variable_in_its_own_value : names.Unit
file_variable_in_its_own_value =
    file_of (codes "package p var x int func f() { x := x; _ = x }")
    ((0, 7) ∷ (8, 1) ∷ (9, 0) ∷ (10, 3) ∷ (14, 1) ∷ (16, 3) ∷ (19, 0) ∷ (20, 4) ∷ (25, 1) ∷ (26, 1) ∷ (27, 1) ∷ (29, 1) ∷ (31, 1) ∷ (33, 2) ∷ (36, 1)
    ∷ (37, 1) ∷ (39, 1) ∷ (41, 1) ∷ (43, 1) ∷ (45, 1) ∷ (46, 0) ∷ [])
    (node kind.File 0 21 (skip (more (node (kind.Declaration sort.Variable) 3 6 (more (node (kind.Specification sort.Variable) 4 6 (more (node
    kind.NameList 4 5 (more (node kind.DeclaredName 4 5 none) none)) (more (node kind.Name 5 6 none) none))) none)) (more (node
    kind.FunctionDeclaration 7 20 (more (node kind.Signature 9 11 (more (node kind.Parameters 9 11 none) (skip none))) (more (node kind.Block 11 20
    (more (node kind.Define 12 15 (more (node kind.NewNames 12 14 (more (node kind.ExpressionList 12 13 (more (node kind.Name 12 13 none) none))
    none)) (more (node kind.ExpressionList 14 15 (more (node kind.Name 14 15 none) none)) none))) (more (node kind.Assignment 16 19 (more (node
    kind.Targets 16 18 (more (node kind.ExpressionList 16 17 (more (node kind.Name 16 17 none) none)) none)) (more (node kind.ExpressionList 18 19
    (more (node kind.Name 18 19 none) none)) none))) none))) none))) none))))

-- A variable is in scope behind its statement: `x` in its own value is that of the package.
abbrev pub Says_variable_in_its_own_value : Type 0
Says_variable_in_its_own_value =
    names_mean (file_variable_in_its_own_value ∷ [])
    ≡
    ((4, object.Package 0) ∷ (5, object.Predeclared predeclared.Int) ∷ (8, object.Package 1) ∷ (12, object.Local 0 0) ∷ (14, object.Package 0) ∷
    (18, object.Local 0 0) ∷ []) ∷ []

abbrev pub file_constant_in_its_own_value : names.Unit
file_constant_in_its_own_value =
    file_of (codes "package p const a = 1 func f() { const a = a; _ = a }")
    ((0, 7) ∷ (8, 1) ∷ (9, 0) ∷ (10, 5) ∷ (16, 1) ∷ (18, 1) ∷ (20, 1) ∷ (21, 0) ∷ (22, 4) ∷ (27, 1) ∷ (28, 1) ∷ (29, 1) ∷ (31, 1) ∷ (33, 5) ∷ (39, 1)
    ∷ (41, 1) ∷ (43, 1) ∷ (44, 1) ∷ (46, 1) ∷ (48, 1) ∷ (50, 1) ∷ (52, 1) ∷ (53, 0) ∷ [])
    (node kind.File 0 23 (skip (more (node (kind.Declaration sort.Constant) 3 7 (more (node (kind.Specification sort.Constant) 4 7 (more (node
    kind.NameList 4 5 (more (node kind.DeclaredName 4 5 none) none)) (more (node kind.Values 5 7 (more (node kind.ExpressionList 6 7 (more (node
    kind.Integer 6 7 none) none)) none)) none))) none)) (more (node kind.FunctionDeclaration 8 22 (more (node kind.Signature 10 12 (more (node
    kind.Parameters 10 12 none) (skip none))) (more (node kind.Block 12 22 (more (node (kind.Declaration sort.Constant) 13 17 (more (node
    (kind.Specification sort.Constant) 14 17 (more (node kind.NameList 14 15 (more (node kind.DeclaredName 14 15 none) none)) (more (node kind.Values
    15 17 (more (node kind.ExpressionList 16 17 (more (node kind.Name 16 17 none) none)) none)) none))) none)) (more (node kind.Assignment 18 21 (more
    (node kind.Targets 18 20 (more (node kind.ExpressionList 18 19 (more (node kind.Name 18 19 none) none)) none)) (more (node kind.ExpressionList 20
    21 (more (node kind.Name 20 21 none) none)) none))) none))) none))) none))))

-- A constant is in scope behind its specification: `a` in its own value is that of the package.
abbrev pub Says_constant_in_its_own_value : Type 0
Says_constant_in_its_own_value =
    names_mean (file_constant_in_its_own_value ∷ [])
    ≡
    ((4, object.Package 0) ∷ (9, object.Package 1) ∷ (14, object.Local 0 0) ∷ (16, object.Package 0) ∷ (20, object.Local 0 0) ∷ []) ∷ []

abbrev pub file_type_in_itself : names.Unit
file_type_in_itself =
    file_of (codes "package p type T int func f() { type T struct { p []T }; var t T; _ = t }")
    ((0, 7) ∷ (8, 1) ∷ (9, 0) ∷ (10, 4) ∷ (15, 1) ∷ (17, 3) ∷ (20, 0) ∷ (21, 4) ∷ (26, 1) ∷ (27, 1) ∷ (28, 1) ∷ (30, 1) ∷ (32, 4) ∷ (37, 1) ∷ (39, 6)
    ∷ (46, 1) ∷ (48, 1) ∷ (50, 1) ∷ (51, 1) ∷ (52, 1) ∷ (54, 1) ∷ (55, 1) ∷ (57, 3) ∷ (61, 1) ∷ (63, 1) ∷ (64, 1) ∷ (66, 1) ∷ (68, 1) ∷ (70, 1) ∷
    (72, 1) ∷ (73, 0) ∷ [])
    (node kind.File 0 31 (skip (more (node (kind.Declaration sort.Type) 3 6 (more (node (kind.Specification sort.Type) 4 6 (more (node kind.Name 5 6
    none) none)) none)) (more (node kind.FunctionDeclaration 7 30 (more (node kind.Signature 9 11 (more (node kind.Parameters 9 11 none) (skip none)))
    (more (node kind.Block 11 30 (more (node (kind.Declaration sort.Type) 12 21 (more (node (kind.Specification sort.Type) 13 21 (more (node
    kind.StructType 14 21 (more (node kind.Fields 16 20 (more (node kind.NameList 16 17 (more (node kind.DeclaredName 16 17 none) none)) (more (node
    kind.SequenceType 17 20 (skip (more (node kind.Name 19 20 none) none))) none))) none)) none)) none)) (more (node (kind.Declaration sort.Variable)
    22 25 (more (node (kind.Specification sort.Variable) 23 25 (more (node kind.NameList 23 24 (more (node kind.DeclaredName 23 24 none) none)) (more
    (node kind.Name 24 25 none) none))) none)) (more (node kind.Assignment 26 29 (more (node kind.Targets 26 28 (more (node kind.ExpressionList 26 27
    (more (node kind.Name 26 27 none) none)) none)) (more (node kind.ExpressionList 28 29 (more (node kind.Name 28 29 none) none)) none))) none))))
    none))) none))))

-- A local type is in scope from its name on, also in its right side; and a field means nothing.
abbrev pub Says_type_in_itself : Type 0
Says_type_in_itself =
    names_mean (file_type_in_itself ∷ [])
    ≡
    ((4, object.Package 0) ∷ (5, object.Predeclared predeclared.Int) ∷ (8, object.Package 1) ∷ (13, object.Local 0 0) ∷ (19, object.Local 0 0) ∷
    (23, object.Local 0 1) ∷ (24, object.Local 0 0) ∷ (28, object.Local 0 1) ∷ []) ∷ []

abbrev pub file_names_of_a_range : names.Unit
file_names_of_a_range =
    file_of (codes "package p func f(x []int) { for x := range x { _ = x } }")
    ((0, 7) ∷ (8, 1) ∷ (9, 0) ∷ (10, 4) ∷ (15, 1) ∷ (16, 1) ∷ (17, 1) ∷ (19, 1) ∷ (20, 1) ∷ (21, 3) ∷ (24, 1) ∷ (26, 1) ∷ (28, 3) ∷ (32, 1) ∷ (34, 2)
    ∷ (37, 5) ∷ (43, 1) ∷ (45, 1) ∷ (47, 1) ∷ (49, 1) ∷ (51, 1) ∷ (53, 1) ∷ (55, 1) ∷ (56, 0) ∷ [])
    (node kind.File 0 24 (skip (more (node kind.FunctionDeclaration 3 23 (more (node kind.Signature 5 11 (more (node kind.Parameters 5 11 (more (node
    kind.Parameter 6 10 (more (node kind.Name 6 7 none) (more (node kind.SequenceType 7 10 (skip (more (node kind.Name 9 10 none) none))) none)))
    none)) (skip none))) (more (node kind.Block 11 23 (more (node kind.For 12 22 (more (node kind.DefiningRange 13 17 (more (node kind.NewNames 13 15
    (more (node kind.ExpressionList 13 14 (more (node kind.Name 13 14 none) none)) none)) (more (node kind.Name 16 17 none) none))) (more (node
    kind.Block 17 22 (more (node kind.Assignment 18 21 (more (node kind.Targets 18 20 (more (node kind.ExpressionList 18 19 (more (node kind.Name 18
    19 none) none)) none)) (more (node kind.ExpressionList 20 21 (more (node kind.Name 20 21 none) none)) none))) none)) none))) none)) none)))
    none)))

-- The names of a range are in scope behind its operand.
abbrev pub Says_names_of_a_range : Type 0
Says_names_of_a_range =
    names_mean (file_names_of_a_range ∷ [])
    ≡
    ((4, object.Package 0) ∷ (6, object.Local 0 0) ∷ (9, object.Predeclared predeclared.Int) ∷ (13, object.Local 0 1) ∷ (16, object.Local 0 0) ∷
    (20, object.Local 0 1) ∷ []) ∷ []

abbrev pub file_parameter_named_again : names.Unit
file_parameter_named_again =
    file_of (codes "package p func f(a int) { a, b := 1, a; _ = b; _ = a }")
    ((0, 7) ∷ (8, 1) ∷ (9, 0) ∷ (10, 4) ∷ (15, 1) ∷ (16, 1) ∷ (17, 1) ∷ (19, 3) ∷ (22, 1) ∷ (24, 1) ∷ (26, 1) ∷ (27, 1) ∷ (29, 1) ∷ (31, 2) ∷ (34, 1)
    ∷ (35, 1) ∷ (37, 1) ∷ (38, 1) ∷ (40, 1) ∷ (42, 1) ∷ (44, 1) ∷ (45, 1) ∷ (47, 1) ∷ (49, 1) ∷ (51, 1) ∷ (53, 1) ∷ (54, 0) ∷ [])
    (node kind.File 0 27 (skip (more (node kind.FunctionDeclaration 3 26 (more (node kind.Signature 5 9 (more (node kind.Parameters 5 9 (more (node
    kind.Parameter 6 8 (more (node kind.Name 6 7 none) (more (node kind.Name 7 8 none) none))) none)) (skip none))) (more (node kind.Block 9 26 (more
    (node kind.Define 10 17 (more (node kind.NewNames 10 14 (more (node kind.ExpressionList 10 13 (more (node kind.Name 10 11 none) (more (node
    kind.Name 12 13 none) none))) none)) (more (node kind.ExpressionList 14 17 (more (node kind.Integer 14 15 none) (more (node kind.Name 16 17 none)
    none))) none))) (more (node kind.Assignment 18 21 (more (node kind.Targets 18 20 (more (node kind.ExpressionList 18 19 (more (node kind.Name 18 19
    none) none)) none)) (more (node kind.ExpressionList 20 21 (more (node kind.Name 20 21 none) none)) none))) (more (node kind.Assignment 22 25 (more
    (node kind.Targets 22 24 (more (node kind.ExpressionList 22 23 (more (node kind.Name 22 23 none) none)) none)) (more (node kind.ExpressionList 24
    25 (more (node kind.Name 24 25 none) none)) none))) none)))) none))) none)))

-- A parameter is one of the block of the function's body: `:=` means it again, and declares `b` alone.
abbrev pub Says_parameter_named_again : Type 0
Says_parameter_named_again =
    names_mean (file_parameter_named_again ∷ [])
    ≡
    ((4, object.Package 0) ∷ (6, object.Local 0 0) ∷ (7, object.Predeclared predeclared.Int) ∷ (10, object.Local 0 0) ∷ (12, object.Local 0 1) ∷
    (16, object.Local 0 0) ∷ (20, object.Local 0 1) ∷ (24, object.Local 0 0) ∷ []) ∷ []

abbrev pub file_header_of_an_if : names.Unit
file_header_of_an_if =
    file_of (codes "package p func f(x int) { if x := 1; x > 0 { _ = x } else { x = 2 }; _ = x }")
    ((0, 7) ∷ (8, 1) ∷ (9, 0) ∷ (10, 4) ∷ (15, 1) ∷ (16, 1) ∷ (17, 1) ∷ (19, 3) ∷ (22, 1) ∷ (24, 1) ∷ (26, 2) ∷ (29, 1) ∷ (31, 2) ∷ (34, 1) ∷ (35, 1)
    ∷ (37, 1) ∷ (39, 1) ∷ (41, 1) ∷ (43, 1) ∷ (45, 1) ∷ (47, 1) ∷ (49, 1) ∷ (51, 1) ∷ (53, 4) ∷ (58, 1) ∷ (60, 1) ∷ (62, 1) ∷ (64, 1) ∷ (66, 1) ∷
    (67, 1) ∷ (69, 1) ∷ (71, 1) ∷ (73, 1) ∷ (75, 1) ∷ (76, 0) ∷ [])
    (node kind.File 0 35 (skip (more (node kind.FunctionDeclaration 3 34 (more (node kind.Signature 5 9 (more (node kind.Parameters 5 9 (more (node
    kind.Parameter 6 8 (more (node kind.Name 6 7 none) (more (node kind.Name 7 8 none) none))) none)) (skip none))) (more (node kind.Block 9 34 (more
    (node kind.If 10 29 (more (node kind.InitializedCondition 11 18 (more (node kind.Define 11 14 (more (node kind.NewNames 11 13 (more (node
    kind.ExpressionList 11 12 (more (node kind.Name 11 12 none) none)) none)) (more (node kind.ExpressionList 13 14 (more (node kind.Integer 13 14
    none) none)) none))) (more (node (kind.Binary (operator.Compare comparison.Greater)) 15 18 (more (node kind.Name 15 16 none) (more (node
    kind.Integer 17 18 none) none))) none))) (more (node kind.Block 18 23 (more (node kind.Assignment 19 22 (more (node kind.Targets 19 21 (more (node
    kind.ExpressionList 19 20 (more (node kind.Name 19 20 none) none)) none)) (more (node kind.ExpressionList 21 22 (more (node kind.Name 21 22 none)
    none)) none))) none)) (more (node kind.Else 23 29 (more (node kind.Block 24 29 (more (node kind.Assignment 25 28 (more (node kind.Targets 25 27
    (more (node kind.ExpressionList 25 26 (more (node kind.Name 25 26 none) none)) none)) (more (node kind.ExpressionList 27 28 (more (node
    kind.Integer 27 28 none) none)) none))) none)) none)) none)))) (more (node kind.Assignment 30 33 (more (node kind.Targets 30 32 (more (node
    kind.ExpressionList 30 31 (more (node kind.Name 30 31 none) none)) none)) (more (node kind.ExpressionList 32 33 (more (node kind.Name 32 33 none)
    none)) none))) none))) none))) none)))

-- What the header of an `if` declares is in scope in its branches, and not behind them.
abbrev pub Says_header_of_an_if : Type 0
Says_header_of_an_if =
    names_mean (file_header_of_an_if ∷ [])
    ≡
    ((4, object.Package 0) ∷ (6, object.Local 0 0) ∷ (7, object.Predeclared predeclared.Int) ∷ (11, object.Local 0 1) ∷ (15, object.Local 0 1) ∷
    (21, object.Local 0 1) ∷ (25, object.Local 0 1) ∷ (32, object.Local 0 0) ∷ []) ∷ []

abbrev pub file_fields_and_keys : names.Unit
file_fields_and_keys =
    file_of (codes "package p type T struct { a int } func f(t T) { _ = t.a; _ = T{a: 1} }")
    ((0, 7) ∷ (8, 1) ∷ (9, 0) ∷ (10, 4) ∷ (15, 1) ∷ (17, 6) ∷ (24, 1) ∷ (26, 1) ∷ (28, 3) ∷ (32, 1) ∷ (33, 0) ∷ (34, 4) ∷ (39, 1) ∷ (40, 1) ∷ (41, 1)
    ∷ (43, 1) ∷ (44, 1) ∷ (46, 1) ∷ (48, 1) ∷ (50, 1) ∷ (52, 1) ∷ (53, 1) ∷ (54, 1) ∷ (55, 1) ∷ (57, 1) ∷ (59, 1) ∷ (61, 1) ∷ (62, 1) ∷ (63, 1) ∷
    (64, 1) ∷ (66, 1) ∷ (67, 1) ∷ (69, 1) ∷ (70, 0) ∷ [])
    (node kind.File 0 34 (skip (more (node (kind.Declaration sort.Type) 3 10 (more (node (kind.Specification sort.Type) 4 10 (more (node
    kind.StructType 5 10 (more (node kind.Fields 7 9 (more (node kind.NameList 7 8 (more (node kind.DeclaredName 7 8 none) none)) (more (node
    kind.Name 8 9 none) none))) none)) none)) none)) (more (node kind.FunctionDeclaration 11 33 (more (node kind.Signature 13 17 (more (node
    kind.Parameters 13 17 (more (node kind.Parameter 14 16 (more (node kind.Name 14 15 none) (more (node kind.Name 15 16 none) none))) none)) (skip
    none))) (more (node kind.Block 17 33 (more (node kind.Assignment 18 23 (more (node kind.Targets 18 20 (more (node kind.ExpressionList 18 19 (more
    (node kind.Name 18 19 none) none)) none)) (more (node kind.ExpressionList 20 23 (more (node kind.Selector 20 23 (more (node kind.Name 20 21 none)
    none)) none)) none))) (more (node kind.Assignment 24 32 (more (node kind.Targets 24 26 (more (node kind.ExpressionList 24 25 (more (node kind.Name
    24 25 none) none)) none)) (more (node kind.ExpressionList 26 32 (more (node kind.Composite 26 32 (more (node kind.Name 26 27 none) (more (node
    kind.Keyed 28 31 (more (node kind.Name 28 29 none) (more (node kind.Integer 30 31 none) none))) none))) none)) none))) none))) none))) none))))

-- Fields and keys of literals mean nothing, wherever they stand.
abbrev pub Says_fields_and_keys : Type 0
Says_fields_and_keys =
    names_mean (file_fields_and_keys ∷ [])
    ≡
    ((4, object.Package 0) ∷ (8, object.Predeclared predeclared.Int) ∷ (12, object.Package 1) ∷ (14, object.Local 0 0) ∷ (15, object.Package 0) ∷
    (20, object.Local 0 0) ∷ (26, object.Package 0) ∷ []) ∷ []

abbrev pub file_package_of_two_files_first : names.Unit
file_package_of_two_files_first =
    file_of (codes "package p func f() int { return a }")
    ((0, 7) ∷ (8, 1) ∷ (9, 0) ∷ (10, 4) ∷ (15, 1) ∷ (16, 1) ∷ (17, 1) ∷ (19, 3) ∷ (23, 1) ∷ (25, 6) ∷ (32, 1) ∷ (34, 1) ∷ (35, 0) ∷ [])
    (node kind.File 0 13 (skip (more (node kind.FunctionDeclaration 3 12 (more (node kind.Signature 5 8 (more (node kind.Parameters 5 7 none) (more
    (node kind.Name 7 8 none) none))) (more (node kind.Block 8 12 (more (node kind.Return 9 11 (more (node kind.ExpressionList 10 11 (more (node
    kind.Name 10 11 none) none)) none)) none)) none))) none)))

abbrev pub file_package_of_two_files_second : names.Unit
file_package_of_two_files_second =
    file_of (codes "package p const a = b const b = 1")
    ((0, 7) ∷ (8, 1) ∷ (9, 0) ∷ (10, 5) ∷ (16, 1) ∷ (18, 1) ∷ (20, 1) ∷ (21, 0) ∷ (22, 5) ∷ (28, 1) ∷ (30, 1) ∷ (32, 1) ∷ (33, 0) ∷ [])
    (node kind.File 0 13 (skip (more (node (kind.Declaration sort.Constant) 3 7 (more (node (kind.Specification sort.Constant) 4 7 (more (node
    kind.NameList 4 5 (more (node kind.DeclaredName 4 5 none) none)) (more (node kind.Values 5 7 (more (node kind.ExpressionList 6 7 (more (node
    kind.Name 6 7 none) none)) none)) none))) none)) (more (node (kind.Declaration sort.Constant) 8 12 (more (node (kind.Specification sort.Constant)
    9 12 (more (node kind.NameList 9 10 (more (node kind.DeclaredName 9 10 none) none)) (more (node kind.Values 10 12 (more (node kind.ExpressionList
    11 12 (more (node kind.Integer 11 12 none) none)) none)) none))) none)) none))))

-- What a package declares is in scope in all its files, in front of its declaration too.
abbrev pub Says_package_of_two_files : Type 0
Says_package_of_two_files =
    names_mean (file_package_of_two_files_first ∷ file_package_of_two_files_second ∷ [])
    ≡
    ((4, object.Package 0) ∷ (7, object.Predeclared predeclared.Int) ∷ (10, object.Package 1) ∷ []) ∷ ((4, object.Package 1) ∷ (6, object.Package 2) ∷
    (9, object.Package 2) ∷ []) ∷ []

abbrev pub file_hidden_predeclared_name : names.Unit
file_hidden_predeclared_name =
    file_of (codes "package p type int bool var x int func f() { true := x; _ = true }")
    ((0, 7) ∷ (8, 1) ∷ (9, 0) ∷ (10, 4) ∷ (15, 3) ∷ (19, 4) ∷ (23, 0) ∷ (24, 3) ∷ (28, 1) ∷ (30, 3) ∷ (33, 0) ∷ (34, 4) ∷ (39, 1) ∷ (40, 1) ∷ (41, 1)
    ∷ (43, 1) ∷ (45, 4) ∷ (50, 2) ∷ (53, 1) ∷ (54, 1) ∷ (56, 1) ∷ (58, 1) ∷ (60, 4) ∷ (65, 1) ∷ (66, 0) ∷ [])
    (node kind.File 0 25 (skip (more (node (kind.Declaration sort.Type) 3 6 (more (node (kind.Specification sort.Type) 4 6 (more (node kind.Name 5 6
    none) none)) none)) (more (node (kind.Declaration sort.Variable) 7 10 (more (node (kind.Specification sort.Variable) 8 10 (more (node
    kind.NameList 8 9 (more (node kind.DeclaredName 8 9 none) none)) (more (node kind.Name 9 10 none) none))) none)) (more (node
    kind.FunctionDeclaration 11 24 (more (node kind.Signature 13 15 (more (node kind.Parameters 13 15 none) (skip none))) (more (node kind.Block 15 24
    (more (node kind.Define 16 19 (more (node kind.NewNames 16 18 (more (node kind.ExpressionList 16 17 (more (node kind.Name 16 17 none) none))
    none)) (more (node kind.ExpressionList 18 19 (more (node kind.Name 18 19 none) none)) none))) (more (node kind.Assignment 20 23 (more (node
    kind.Targets 20 22 (more (node kind.ExpressionList 20 21 (more (node kind.Name 20 21 none) none)) none)) (more (node kind.ExpressionList 22 23
    (more (node kind.Name 22 23 none) none)) none))) none))) none))) none)))))

-- A declaration hides a predeclared name, in the package or in a function.
abbrev pub Says_hidden_predeclared_name : Type 0
Says_hidden_predeclared_name =
    names_mean (file_hidden_predeclared_name ∷ [])
    ≡
    ((4, object.Package 0) ∷ (5, object.Predeclared predeclared.Bool) ∷ (8, object.Package 1) ∷ (9, object.Package 0) ∷ (12, object.Package 2) ∷
    (16, object.Local 0 0) ∷ (18, object.Package 1) ∷ (22, object.Local 0 0) ∷ []) ∷ []

abbrev pub file_import_and_a_local_of_its_name : names.Unit
file_import_and_a_local_of_its_name =
    file_of (codes "package p import \"fmt\" func f() { fmt.Println(); fmt := 1; _ = fmt }")
    ((0, 7) ∷ (8, 1) ∷ (9, 0) ∷ (10, 6) ∷ (17, 5) ∷ (22, 0) ∷ (23, 4) ∷ (28, 1) ∷ (29, 1) ∷ (30, 1) ∷ (32, 1) ∷ (34, 3) ∷ (37, 1) ∷ (38, 7) ∷ (45, 1)
    ∷ (46, 1) ∷ (47, 1) ∷ (49, 3) ∷ (53, 2) ∷ (56, 1) ∷ (57, 1) ∷ (59, 1) ∷ (61, 1) ∷ (63, 3) ∷ (67, 1) ∷ (68, 0) ∷ [])
    (node kind.File 0 26 (more (node kind.Imports 3 6 (more (node kind.Import 3 5 (more (node kind.ImportPath 4 5 none) none)) none)) (more (node
    kind.FunctionDeclaration 6 25 (more (node kind.Signature 8 10 (more (node kind.Parameters 8 10 none) (skip none))) (more (node kind.Block 10 25
    (more (node kind.ExpressionStatement 11 16 (more (node kind.Call 11 16 (more (node kind.Selector 11 14 (more (node kind.Name 11 12 none) none))
    none)) none)) (more (node kind.Define 17 20 (more (node kind.NewNames 17 19 (more (node kind.ExpressionList 17 18 (more (node kind.Name 17 18
    none) none)) none)) (more (node kind.ExpressionList 19 20 (more (node kind.Integer 19 20 none) none)) none))) (more (node kind.Assignment 21 24
    (more (node kind.Targets 21 23 (more (node kind.ExpressionList 21 22 (more (node kind.Name 21 22 none) none)) none)) (more (node
    kind.ExpressionList 23 24 (more (node kind.Name 23 24 none) none)) none))) none)))) none))) none)))

-- A local hides the import of its name from its statement on; a selected name means nothing.
abbrev pub Says_import_and_a_local_of_its_name : Type 0
Says_import_and_a_local_of_its_name =
    names_mean (file_import_and_a_local_of_its_name ∷ [])
    ≡
    ((7, object.Package 0) ∷ (11, object.Import) ∷ (17, object.Local 0 0) ∷ (23, object.Local 0 0) ∷ []) ∷ []

abbrev pub file_clauses_of_a_switch : names.Unit
file_clauses_of_a_switch =
    file_of (codes "package p func f(x int) { switch x { case 1: y := 1; _ = y; default: y := 2; _ = y } }")
    ((0, 7) ∷ (8, 1) ∷ (9, 0) ∷ (10, 4) ∷ (15, 1) ∷ (16, 1) ∷ (17, 1) ∷ (19, 3) ∷ (22, 1) ∷ (24, 1) ∷ (26, 6) ∷ (33, 1) ∷ (35, 1) ∷ (37, 4) ∷ (42, 1)
    ∷ (43, 1) ∷ (45, 1) ∷ (47, 2) ∷ (50, 1) ∷ (51, 1) ∷ (53, 1) ∷ (55, 1) ∷ (57, 1) ∷ (58, 1) ∷ (60, 7) ∷ (67, 1) ∷ (69, 1) ∷ (71, 2) ∷ (74, 1) ∷
    (75, 1) ∷ (77, 1) ∷ (79, 1) ∷ (81, 1) ∷ (83, 1) ∷ (85, 1) ∷ (86, 0) ∷ [])
    (node kind.File 0 36 (skip (more (node kind.FunctionDeclaration 3 35 (more (node kind.Signature 5 9 (more (node kind.Parameters 5 9 (more (node
    kind.Parameter 6 8 (more (node kind.Name 6 7 none) (more (node kind.Name 7 8 none) none))) none)) (skip none))) (more (node kind.Block 9 35 (more
    (node kind.Switch 10 34 (more (node kind.Name 11 12 none) (more (node kind.Case 13 24 (more (node kind.ExpressionList 14 15 (more (node
    kind.Integer 14 15 none) none)) (more (node kind.Define 16 19 (more (node kind.NewNames 16 18 (more (node kind.ExpressionList 16 17 (more (node
    kind.Name 16 17 none) none)) none)) (more (node kind.ExpressionList 18 19 (more (node kind.Integer 18 19 none) none)) none))) (more (node
    kind.Assignment 20 23 (more (node kind.Targets 20 22 (more (node kind.ExpressionList 20 21 (more (node kind.Name 20 21 none) none)) none)) (more
    (node kind.ExpressionList 22 23 (more (node kind.Name 22 23 none) none)) none))) none)))) (more (node kind.Default 24 33 (more (node kind.Define
    26 29 (more (node kind.NewNames 26 28 (more (node kind.ExpressionList 26 27 (more (node kind.Name 26 27 none) none)) none)) (more (node
    kind.ExpressionList 28 29 (more (node kind.Integer 28 29 none) none)) none))) (more (node kind.Assignment 30 33 (more (node kind.Targets 30 32
    (more (node kind.ExpressionList 30 31 (more (node kind.Name 30 31 none) none)) none)) (more (node kind.ExpressionList 32 33 (more (node kind.Name
    32 33 none) none)) none))) none))) none)))) none)) none))) none)))

-- Each clause of a `switch` is a block of its own.
abbrev pub Says_clauses_of_a_switch : Type 0
Says_clauses_of_a_switch =
    names_mean (file_clauses_of_a_switch ∷ [])
    ≡
    ((4, object.Package 0) ∷ (6, object.Local 0 0) ∷ (7, object.Predeclared predeclared.Int) ∷ (11, object.Local 0 0) ∷ (16, object.Local 0 1) ∷
    (22, object.Local 0 1) ∷ (26, object.Local 0 2) ∷ (32, object.Local 0 2) ∷ []) ∷ []

abbrev pub file_loop_and_its_body : names.Unit
file_loop_and_its_body =
    file_of (codes "package p func f(n int) { for i := 0; i < n; i++ { i := i; _ = i } }")
    ((0, 7) ∷ (8, 1) ∷ (9, 0) ∷ (10, 4) ∷ (15, 1) ∷ (16, 1) ∷ (17, 1) ∷ (19, 3) ∷ (22, 1) ∷ (24, 1) ∷ (26, 3) ∷ (30, 1) ∷ (32, 2) ∷ (35, 1) ∷ (36, 1)
    ∷ (38, 1) ∷ (40, 1) ∷ (42, 1) ∷ (43, 1) ∷ (45, 1) ∷ (46, 2) ∷ (49, 1) ∷ (51, 1) ∷ (53, 2) ∷ (56, 1) ∷ (57, 1) ∷ (59, 1) ∷ (61, 1) ∷ (63, 1) ∷
    (65, 1) ∷ (67, 1) ∷ (68, 0) ∷ [])
    (node kind.File 0 32 (skip (more (node kind.FunctionDeclaration 3 31 (more (node kind.Signature 5 9 (more (node kind.Parameters 5 9 (more (node
    kind.Parameter 6 8 (more (node kind.Name 6 7 none) (more (node kind.Name 7 8 none) none))) none)) (skip none))) (more (node kind.Block 9 31 (more
    (node kind.For 10 30 (more (node kind.InitializedForClause 11 21 (more (node kind.Define 11 14 (more (node kind.NewNames 11 13 (more (node
    kind.ExpressionList 11 12 (more (node kind.Name 11 12 none) none)) none)) (more (node kind.ExpressionList 13 14 (more (node kind.Integer 13 14
    none) none)) none))) (more (node (kind.Binary (operator.Compare comparison.Less)) 15 18 (more (node kind.Name 15 16 none) (more (node kind.Name 17
    18 none) none))) (more (node (kind.StepStatement step.Increment) 19 21 (more (node kind.Name 19 20 none) none)) none)))) (more (node kind.Block 21
    30 (more (node kind.Define 22 25 (more (node kind.NewNames 22 24 (more (node kind.ExpressionList 22 23 (more (node kind.Name 22 23 none) none))
    none)) (more (node kind.ExpressionList 24 25 (more (node kind.Name 24 25 none) none)) none))) (more (node kind.Assignment 26 29 (more (node
    kind.Targets 26 28 (more (node kind.ExpressionList 26 27 (more (node kind.Name 26 27 none) none)) none)) (more (node kind.ExpressionList 28 29
    (more (node kind.Name 28 29 none) none)) none))) none))) none))) none)) none))) none)))

-- The header of a `for` is a block around that of its body.
abbrev pub Says_loop_and_its_body : Type 0
Says_loop_and_its_body =
    names_mean (file_loop_and_its_body ∷ [])
    ≡
    ((4, object.Package 0) ∷ (6, object.Local 0 0) ∷ (7, object.Predeclared predeclared.Int) ∷ (11, object.Local 0 1) ∷ (15, object.Local 0 1) ∷
    (17, object.Local 0 0) ∷ (19, object.Local 0 1) ∷ (22, object.Local 0 2) ∷ (24, object.Local 0 1) ∷ (28, object.Local 0 2) ∷ []) ∷ []
