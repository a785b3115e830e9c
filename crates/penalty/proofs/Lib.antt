-- Theorems that stand on the definitions of specs/.
pub mod Penalises
pub mod Small
