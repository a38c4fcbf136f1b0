pub mod Ready
pub mod Down
