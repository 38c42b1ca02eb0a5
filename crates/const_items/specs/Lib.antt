pub mod Items
pub mod ItemViews
pub mod SmallPlaces
pub mod Dependence
pub mod TargetViews
pub mod steps
