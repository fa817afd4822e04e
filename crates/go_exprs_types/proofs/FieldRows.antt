-- The fields of a struct type, line by line.
use Rattle.std.proofs.Common.{◌≡◌, ℕ, List, [], ◌∷◌, map, None, refl, ap, ◌∙◌}
use Rattle.go_types.specs.declared.shape.Field.{Field}
use Rattle.go_types.specs.Trees.{structure, row}
use Rattle.go_types.specs.Tables.{Table, type_of}
use Rattle.go_exprs_rules.specs.TypeNodes.{Fields, fields_of, names_of, types_of, structure_of}
use Rattle.go_exprs_types.specs.Structs.{fields_seen, struct_seen}

pub names_are : (t : Table) (fs : List Field) → names_of (fields_seen t fs) ≡ map (λ (f : Field). f.name) fs
names_are t [] = refl
names_are t (f ∷ fs) = ap (λ xs. f.name ∷ xs) (names_are t fs)

pub types_are : (t : Table) (fs : List Field) → types_of (fields_seen t fs) ≡ map (λ (f : Field). type_of t.shapes f.ty) fs
types_are t [] = refl
types_are t (f ∷ fs) = ap (λ xs. type_of t.shapes f.ty ∷ xs) (types_are t fs)

pub structure_is : (t : Table) (fs : List Field) → structure_of (fields_seen t fs) ≡ struct_seen t fs
structure_is t fs = ap (λ ns. structure ns (row (types_of (fields_seen t fs)))) (names_are t fs) ∙ ap (λ ts. structure (map (λ (f : Field). f.name) fs) (row ts)) (types_are t fs)

-- where the type of a line is none, it has no fields
pub no_fields : (ns : List (List ℕ)) (rest : Fields) → fields_of ns None rest ≡ rest
no_fields [] rest = refl
no_fields (n ∷ ns) rest = refl
