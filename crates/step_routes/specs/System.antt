-- A STEP'S SYSTEM, lent together.
use Rattle.std.specs.Prelude.{ℕ, ◌*◌, Bool, List, leb, Float}
use Rattle.matrix_shape.specs.Shape.{Shape, lists}
use Rattle.plan_fits.specs.Layout.{Layout, plan_lists}
use Rattle.step_routes.specs.declared.system.System.{System}

pub record Sys : Type 0 where
  pub shape : Shape
  pub blocks : List Float
  pub layout : Layout
  pub values : List Float
  pub factored : Bool
  pub preconditioner : List Float
  pub tolerance : Float
  pub max_iterations : ℕ
  pub max_dense_dofs : ℕ

abbrev pub system : Shape → List Float → Layout → List Float → Bool → List Float → Float → ℕ → ℕ → Sys
system shape blocks layout values factored preconditioner tolerance limit max_dense_dofs = record {
  shape = shape;
  blocks = blocks;
  layout = layout;
  values = values;
  factored = factored;
  preconditioner = preconditioner;
  tolerance = tolerance;
  max_iterations = limit;
  max_dense_dofs = max_dense_dofs;
}

-- what a lent system's lists hold
abbrev pub system_of : System → Sys
system_of s =
    system (lists s.pattern) s.blocks.now (plan_lists s.plan) s.values.now s.factored s.preconditioner.now s.settings.tolerance s.settings.max_iterations
    s.max_dense_dofs

-- whether the plan and the factor count
abbrev pub is_dense : Sys → Bool
is_dense s = leb (2 * s.shape.n) s.max_dense_dofs
