use Rattle.std.proofs.Common.{sym, subst}
use Rattle.go_scopes_named.specs.Named.{all_meanings, named_locals}
use Rattle.go_scopes_named.specs.Segments.{AreSegments, segments_of}
use Rattle.go_scopes_named.proofs.by_name.Named.segments_of.Goals as goal

pub returns : goal.returns
returns c =
    subst (λ o. AreSegments c.args.file (segments_of o) (named_locals c.args.file c.args.name.now (all_meanings c.args.self.now))) (sym c.get.ensures.value) (c.requires.locals c.args.file c.args.name)
