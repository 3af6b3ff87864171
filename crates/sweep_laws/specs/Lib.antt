pub mod Without
pub mod Left
pub mod Leaving
pub mod WithoutRows
pub mod Due
pub mod DueRows
pub mod Told
pub mod Swept
