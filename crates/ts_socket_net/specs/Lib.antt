pub mod Opening
pub mod Asking
pub mod SocketNet
pub mod Watching
