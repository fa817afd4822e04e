use Rattle.go_ints.specs.declared.kinds.Kind.TheVariants as integer_kind
use Rattle.go_types.specs.Trees.{boolean, text, integer}
use Rattle.go_types_relations.proofs.Public.{grows_both}
use Rattle.go_exprs_types.proofs.Growing.{kept}
use Rattle.go_exprs_types.proofs.predeclared.basics.Goals as goal

pub returns-in_err-byte-clause-grows : goal.returns-in_err-byte-clause-grows
returns-in_err-byte-clause-grows c =
    grows_both c.args.types.now c.pair-2.new.types c.pair-3.new.types (grows_both c.args.types.now c.pair.new.types c.pair-2.new.types c.in_ok-boolean.ensures.grows c.in_ok-int.ensures.grows) c.in_err-byte.ensures.grows

pub returns-in_err-procedure-clause-grows : goal.returns-in_err-procedure-clause-grows
returns-in_err-procedure-clause-grows c =
    grows_both c.args.types.now c.pair-3.new.types c.procedure.new.types (grows_both c.args.types.now c.pair-2.new.types c.pair-3.new.types (grows_both c.args.types.now c.pair.new.types c.pair-2.new.types c.in_ok-boolean.ensures.grows c.in_ok-int.ensures.grows) c.in_ok-byte.ensures.grows) c.in_err-procedure.ensures.grows

pub returns-clause-grows : goal.returns-clause-grows
returns-clause-grows c =
    grows_both c.args.types.now c.pair-3.new.types c.procedure.new.types (grows_both c.args.types.now c.pair-2.new.types c.pair-3.new.types (grows_both c.args.types.now c.pair.new.types c.pair-2.new.types c.in_ok-boolean.ensures.grows c.in_ok-int.ensures.grows) c.in_ok-byte.ensures.grows) c.in_ok-procedure.ensures.grows

pub returns-clause-basics : goal.returns-clause-basics
returns-clause-basics c =
    let s = c.pair.new.types in
    let t = c.pair-2.new.types in
    let u = c.pair-3.new.types in
    let v = c.procedure.new.types in
    let st = c.in_ok-int.ensures.grows in
    let tu = c.in_ok-byte.ensures.grows in
    let uv = c.in_ok-procedure.ensures.grows in
    let ok = c.in_ok-boolean.ensures.grows.table in
    let of_bool = kept u v tu.table uv c.in_ok-boolean.boolean boolean (kept t u st.table tu c.in_ok-boolean.boolean boolean (kept s t ok st c.in_ok-boolean.boolean boolean c.in_ok-boolean.ensures.are.0)) in
    let of_text = kept u v tu.table uv c.in_ok-boolean.text text (kept t u st.table tu c.in_ok-boolean.text text (kept s t ok st c.in_ok-boolean.text text c.in_ok-boolean.ensures.are.1)) in
    let of_int = kept u v tu.table uv c.in_ok-int.int (integer integer_kind.Int) (kept t u st.table tu c.in_ok-int.int (integer integer_kind.Int) c.in_ok-int.ensures.are.0) in
    let of_uint = kept u v tu.table uv c.in_ok-int.uint (integer integer_kind.Uint) (kept t u st.table tu c.in_ok-int.uint (integer integer_kind.Uint) c.in_ok-int.ensures.are.1) in
    let of_byte = kept u v tu.table uv c.in_ok-byte.byte (integer integer_kind.Uint8) c.in_ok-byte.ensures.are.0 in
    let of_rune = kept u v tu.table uv c.in_ok-byte.rune (integer integer_kind.Int32) c.in_ok-byte.ensures.are.1 in
    let of_procedure = c.in_ok-procedure.ensures.is in
    record {
      boolean_known = of_bool.0;
      boolean_is = of_bool.1;
      text_known = of_text.0;
      text_is = of_text.1;
      int_known = of_int.0;
      int_is = of_int.1;
      uint_known = of_uint.0;
      uint_is = of_uint.1;
      byte_known = of_byte.0;
      byte_is = of_byte.1;
      rune_known = of_rune.0;
      rune_is = of_rune.1;
      procedure_known = of_procedure.0;
      procedure_is = of_procedure.1;
    }
