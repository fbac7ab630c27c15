use Rattle.tg_graph.proofs.heap.Heap.settle.Given as goal

abbrev pub ghost-move_cells : goal.ghost-move_cells
ghost-move_cells g a = a.cells.now.spaces.spaces
