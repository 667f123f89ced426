use Rattle.lk_link.specs.Walks.{input_of}
use Rattle.lk_relax.proofs.InputsThere.{file_there, index_small}
use Rattle.lk_relax.proofs.deletions.size_after.Goals as goal

pub deleted_of-deleted-requires-clause-there : goal.deleted_of-deleted-requires-clause-there
deleted_of-deleted-requires-clause-there c = file_there c.args.link.now (input_of c.args.input) c.requires.there

pub deleted_of-deleted-requires-clause-few : goal.deleted_of-deleted-requires-clause-few
deleted_of-deleted-requires-clause-few c = index_small c.args.link.now (input_of c.args.input) c.requires.good c.requires.there
