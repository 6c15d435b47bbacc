mod Cut
mod InForce
mod Said
