use Rattle.std.proofs.Common.{◌∙◌, ap, sym}
use Rattle.go_tree.specs.Views.{view, views}
use Rattle.go_stmts_defs.specs.Reading.{part_source}
use Rattle.go_stmts.specs.State.{text_of}
use Rattle.go_stmts.proofs.Sources.{source_kept}
use Rattle.go_stmts.proofs.leaving.declare_constants.Goals as goal

pub returns-clause-frame : goal.returns-clause-frame
returns-clause-frame c = λ o x rs s has.
    c.in_ok-declare_names.ensures.frame o x rs (record s { source = part_source (views c.args.written.now) s.source }) (record {
      names = has.names;
      locals = has.locals;
      source = ap (part_source (views c.args.written.now)) has.source ∙ sym c.part_source-state.ensures;
      tag = has.tag;
      results = has.results;
      types = has.types;
    })

pub returns-clause-known : goal.returns-clause-known
returns-clause-known c = λ o x rs read known.
    c.in_ok-declare_names.ensures.known o x rs (record {
      around = known.around;
      locals = known.locals;
      source = source_kept (text_of o) (λ n. view n.now) (views c.args.written.now) c.args.state.now.source c.part_source-state.result c.part_source-state.ensures read known.source;
      tag = known.tag;
      results = known.results;
    })
