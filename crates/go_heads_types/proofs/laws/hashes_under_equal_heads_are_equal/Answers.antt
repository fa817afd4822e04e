use Rattle.go_heads_types.proofs.laws.hashes_under_equal_heads_are_equal.Goals as goal

pub returns : goal.returns
returns g c = c.windows_under_equal_heads_have_one_number.ensures.lawful (g.H.WindowHash.number c.args.hash.now) (g.met.H.WindowHash.lawful c.args.hash.now)
