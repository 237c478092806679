pub mod Laws
pub mod OneText
pub mod Begun
pub mod OnTheWay
