pub mod Said
pub mod Facts
pub mod Planning
pub mod PlanFits
