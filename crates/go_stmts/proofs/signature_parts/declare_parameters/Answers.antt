use Rattle.std.proofs.Common.{◌∙◌, refl, arith}
use Rattle.go_stmts_defs.specs.Frames.{Frame}
use Rattle.go_stmts_rules.specs.Seen.{locals_in}
use Rattle.go_stmts.proofs.FrameParameters.{parameter_at, parameters_end}
use Rattle.go_stmts.proofs.signature_parts.declare_parameters.Goals as goal

pub loop-number-preserved : goal.loop-number-preserved
loop-number-preserved c = record {
  known = c.declare_parameter.ensures.known;
  iota = c.declare_parameter.ensures.iota ∙ c.loop-number.invariant.iota;
  declared = λ s e.
      let t = c.args.types.now in
      let now : Frame = record s { locals = locals_in t c.loop-number.locals } in
      c.loop-number.invariant.declared s e ∙ parameter_at t c.args.names.now c.args.of.now c.loop-number.number _ _ now (record s { locals = locals_in t c.declare_parameter.new.locals }) (omega arith) (omega arith) (c.declare_parameter.ensures.locals now refl);
}

pub returns-clause-locals : goal.returns-clause-locals
returns-clause-locals c = λ s e.
    let t = c.args.types.now in
    c.loop-number.invariant.declared s e ∙ parameters_end t c.args.names.now c.args.of.now c.loop-number.number (record s { locals = locals_in t c.loop-number.locals }) (omega arith)
