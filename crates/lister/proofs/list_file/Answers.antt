use Rattle.lister.proofs.Texts.{on_ok}
use Rattle.lister.proofs.FileTexts.{listed_said}
use Rattle.lister.proofs.FileLeaves.{file_prints_each_leaf}
use Rattle.lister.proofs.list_file.Goals as goal

pub returns-clause-text : goal.returns-clause-text
returns-clause-text g c = on_ok c.print_file.result (listed_said (g.R.Read.remaining c.args.file) _ _ _ c.in_ok-n.ensures.bytes) c.print_file.ensures

pub returns-clause-leaves : goal.returns-clause-leaves
returns-clause-leaves g c = file_prints_each_leaf

pub returns-in_err-n-clause-leaves : goal.returns-in_err-n-clause-leaves
returns-in_err-n-clause-leaves g c = file_prints_each_leaf
