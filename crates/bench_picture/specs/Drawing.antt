-- WHAT IS DRAWN, lent together.
use Rattle.bench_picture.specs.Pixels.{Scene, scene}
use Rattle.bench_picture.specs.declared.drawing.Drawing.{Drawing}

abbrev pub scene_of : Drawing → Scene
scene_of d = scene d.n d.row_offsets.now d.cols.now d.order.now d.first.now
