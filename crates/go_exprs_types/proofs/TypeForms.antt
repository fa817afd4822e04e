-- Forms of names, by whether they are types.
use Rattle.std.proofs.Common.{◌≡◌, true, false, refl}
use Rattle.go_typed.specs.declared.form.Form.{Form}
use Rattle.go_typed.specs.declared.form.Form.TheVariants as form
use Rattle.go_typed.specs.Trees as sort
use Rattle.go_exprs_rules.specs.Sorts.{Stands}
use Rattle.go_exprs_rules.specs.Names.{form_or_type}
use Rattle.go_exprs_rules.specs.Tables.{is_type}

pub form_of_type : (s : Stands) (f : Form) → is_type s ≡ true → form_or_type s f ≡ form.Type
form_of_type (sort.IsType t) f e = refl
form_of_type sort.Nothing f e = cc
form_of_type sort.Unknown f e = cc
form_of_type sort.Blank f e = cc
form_of_type sort.Nil f e = cc
form_of_type (sort.Builtin p) f e = cc
form_of_type sort.Println f e = cc
form_of_type sort.Package f e = cc
form_of_type (sort.Value t) f e = cc
form_of_type (sort.Constant t c) f e = cc
form_of_type (sort.Open u) f e = cc
form_of_type (sort.OpenConstant c) f e = cc
form_of_type (sort.Results t) f e = cc

pub form_of_others : (s : Stands) (f : Form) → is_type s ≡ false → form_or_type s f ≡ f
form_of_others (sort.IsType t) f e = cc
form_of_others sort.Nothing f e = refl
form_of_others sort.Unknown f e = refl
form_of_others sort.Blank f e = refl
form_of_others sort.Nil f e = refl
form_of_others (sort.Builtin p) f e = refl
form_of_others sort.Println f e = refl
form_of_others sort.Package f e = refl
form_of_others (sort.Value t) f e = refl
form_of_others (sort.Constant t c) f e = refl
form_of_others (sort.Open u) f e = refl
form_of_others (sort.OpenConstant c) f e = refl
form_of_others (sort.Results t) f e = refl
