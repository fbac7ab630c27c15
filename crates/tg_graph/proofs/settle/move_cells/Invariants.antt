use Rattle.tg_graph.proofs.settle.move_cells.Given as goal

abbrev pub ghost-rewrite : goal.ghost-rewrite
ghost-rewrite g a = g.h
