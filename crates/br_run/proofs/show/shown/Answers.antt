use Rattle.br_run.proofs.show.shown.Goals as goal

pub returns-in-Depends-clause-packages : goal.returns-in-Depends-clause-packages
returns-in-Depends-clause-packages c = rw c.in-Depends.is c.depends.ensures.packages

pub returns-in-Recursive-clause-packages : goal.returns-in-Recursive-clause-packages
returns-in-Recursive-clause-packages c = rw c.in-Recursive.is c.recursive_depends.ensures.packages

pub returns-in-Rdepends-clause-packages : goal.returns-in-Rdepends-clause-packages
returns-in-Rdepends-clause-packages c = rw c.in-Rdepends.is c.rdepends.ensures.packages
